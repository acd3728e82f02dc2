-- The ends of all parts of a search.
use Rattle.std.specs.Prelude.{◌≡◌, ℕ, ◌<◌, List, Some, length, slice_get}
use Rattle.hp_schedules.specs.Ends.{AreCounted}
use Rattle.hp_schedules.specs.Parts.{EndsInPart, PartValue}
use Rattle.hp_explore.specs.Faults.{FillsPart}
use Rattle.hp_schedules.specs.Schedules.{Setting}
use Rattle.hp_schedules.specs.declared.tally.Ending.{Ending}

-- the part at `index` of `of` parts; the first `calls` calls decide a schedule's part
abbrev pub part : (of calls index : ℕ) → PartValue
part of calls index = record { index = index; of = of; calls = calls }

-- the lists have the ends of all parts, from the part at index 0 on
abbrev pub AreParts : Setting → (calls : ℕ) → List (List Ending) → Type 0
AreParts g calls lists =
    (k : ℕ) (ends : List Ending) → slice_get lists k ≡ Some ends
    → AreCounted (EndsInPart g (part (length lists) calls k)) ends

-- no two ends have the same outcome
abbrev pub AreApart : List Ending → Type 0
AreApart ends =
    (i j : ℕ) (e f : Ending) → slice_get ends i ≡ Some e → slice_get ends j ≡ Some f → e.outcome ≡ f.outcome
    → i ≡ j

-- the history has room for each call in the searches of all parts
abbrev pub HaveRoom : Setting → (of calls : ℕ) → Type 0
HaveRoom g of calls = (k : ℕ) → k < of → FillsPart g (part of calls k) → ⊥
