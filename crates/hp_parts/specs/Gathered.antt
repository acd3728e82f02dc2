-- The parts that a text consists of, each with its own ends.
use Rattle.std.specs.Prelude.{◌≡◌, ℕ, ◌≤◌, List, ◌++◌, length}
use Rattle.std.specs.List.{All, flat_map}
use Rattle.hp_schedules.specs.Schedules.{Setting}
use Rattle.hp_schedules.specs.Parts.{EndsInPart}
use Rattle.hp_parts.specs.Gathering.{GatheringValue, PartEndsValue}
use Rattle.hp_parts.specs.Heads.{SearchValue, part_in}
use Rattle.hp_parts.specs.Texts.{begun_lines, part_lines}

-- the search has this part, and each of the part's ends has the outcome of its first schedule, which is
-- a complete schedule of the part
pub record IsOwn (g : Setting) (s : SearchValue) (p : PartEndsValue) : Type 0 where
  pub some : 1 ≤ p.number
  pub within : p.number ≤ s.of
  pub ends : All (λ e. EndsInPart g (part_in s p.number) e.first.items e.outcome) p.ends

-- the search has all these parts, each with its own ends
abbrev pub AreOwn : Setting → SearchValue → List PartEndsValue → Type 0
AreOwn g s parts = All (IsOwn g s) parts

-- the text of several parts, one after another
abbrev pub lines_of : (names : List (List ℕ)) → Setting → SearchValue → List PartEndsValue → List ℕ
lines_of names g s parts = flat_map (λ p. part_lines names g s p.number p.ends) parts

-- the text so far consists of these parts
pub record IsGathering (names : List (List ℕ)) (g : Setting) (s : SearchValue) (text : List ℕ)
    (v : GatheringValue) : Type 0 where
  pub is : text ≡ lines_of names g s v.done ++ begun_lines names g s v.last.number v.named v.last.ends
  pub done : AreOwn g s v.done
  pub last : IsOwn g s v.last

-- the last part, `number`, has another number of ends than its head gives
abbrev pub IsLastOther : GatheringValue → (number : ℕ) → Type 0
IsLastOther v number = (number ≡ v.last.number) × (v.named ≡ length v.last.ends → ⊥)

-- the whole text consists of these parts
pub record IsGathered (names : List (List ℕ)) (g : Setting) (s : SearchValue) (text : List ℕ)
    (parts : List PartEndsValue) : Type 0 where
  pub is : text ≡ lines_of names g s parts
  pub own : AreOwn g s parts
