-- The effect of taking one line.
use Rattle.std.specs.Prelude.{◌≡◌, ℕ, ◌+◌, ◌≤◌, List, [], ◌∷◌, ◌++◌, length, take}
use Rattle.hp_schedules.specs.declared.tally.Ending.{Ending}
use Rattle.hp_schedules.specs.Schedules.{Setting}
use Rattle.hp_text.specs.State.{newline}
use Rattle.hp_parts.specs.Gathering.{GatheringValue}
use Rattle.hp_parts.specs.Heads.{HeadValue, SearchValue}
use Rattle.hp_parts.specs.Gathered.{IsGathering}
use Rattle.hp_parts.specs.Texts.{end_line}

-- taking the line `text` and its newline leads from `old` to `new`
abbrev pub IsTaken : (names : List (List ℕ)) → Setting → SearchValue → (old : GatheringValue)
    → (text : List ℕ) → (new : GatheringValue) → Type 0
IsTaken names g s old text new =
    (front : List ℕ) → IsGathering names g s front old
    → IsGathering names g s (front ++ (text ++ newline)) new

-- an end was added to the last part, and the text is its line
pub record IsPushed (names : List (List ℕ)) (g : Setting) (old : GatheringValue) (text : List ℕ)
    (end : Ending) (new : GatheringValue) : Type 0 where
  pub line : text ≡ end_line names g (length old.last.ends + 1) end
  pub is : new
      ≡ record {
        done = old.done;
        last = record { number = old.last.number; ends = old.last.ends ++ end ∷ [] };
        named = old.named;
      }

-- the first `start` bytes of the input are this head and its newline, and the search has the head's part
abbrev pub HasRead : (names : List (List ℕ)) → Setting → HeadValue → (input : List ℕ) → (start : ℕ) → Type 0
HasRead names g h input start =
    (start ≤ length input)
    × IsGathering names g h.search (take start input)
    (record { done = []; last = record { number = h.number; ends = [] }; named = h.ends })
