-- States as byte strings, and the numbers under which a table stores them.
use Rattle.std.specs.Prelude.{ℕ, ◌≡◌, ◌+◌, ◌/◌, Bool, true, false, List, [], ◌∷◌, ◌++◌, Some, slice_get}
use Rattle.std.specs.List.{flat_map, range_with_len}
use Rattle.hp_units.specs.Arithmetic.{pageblock_count}
use Rattle.hp_units.specs.LayoutParts.{LayoutParts}
use Rattle.hp_units.specs.Memory.{Memory}
use Rattle.hp_units.specs.Placement.{IsShaped}
use Rattle.hp_states.specs.Parts.{auto_number, counted_code, kernel_code, kinds_code, lists_code, owner_code, row_code}

-- the code of a state of a layout: its parts one after another
unfoldable pub state_code : LayoutParts → Memory → List ℕ
state_code l m =
    lists_code 0 m.free.areas.lists
    ++ flat_map (kinds_code m.free.areas.kinds) (range_with_len 0 ((pageblock_count l + 3) / 4))
    ++ lists_code 0 m.free.cached ++ flat_map (owner_code l m.pages) (range_with_len 0 l.owners)
    ++ kernel_code 0 m.kernel ++ flat_map row_code m.blocks.rows ++ auto_number m.blocks.auto ∷ []

-- the code of a place of a search: some numbers, with their count, and then the state
abbrev pub place_code : LayoutParts → (numbers : List ℕ) → Memory → List ℕ
place_code l numbers m = counted_code numbers ++ state_code l m

-- the text is among the texts
abbrev pub IsAmong : (texts : List (List ℕ)) → (text : List ℕ) → Type 0
IsAmong texts text = (at : ℕ) × (slice_get texts at ≡ Some text)

-- if the text is found, the table has it and stays as it is; if not, the table gets it
abbrev pub IsFoundOrAdded : (old new : List (List ℕ)) → (text : List ℕ) → (found : Bool) → Type 0
IsFoundOrAdded old new text true = (new ≡ old) × IsAmong old text
IsFoundOrAdded old new text false = new ≡ old ++ text ∷ []

-- each number in use keeps its code
abbrev pub KeepCodes : (old new : List (List ℕ)) → Type 0
KeepCodes old new = (n : ℕ) (c : List ℕ) → slice_get old n ≡ Some c → slice_get new n ≡ Some c

-- `codes` has the state's code under `number`, and the state's lists have the lengths that the
-- layout gives them
pub record IsCoded (l : LayoutParts) (codes : List (List ℕ)) (number : ℕ) (m : Memory) : Type 0 where
  pub code : slice_get codes number ≡ Some (state_code l m)
  pub shaped : IsShaped l m
