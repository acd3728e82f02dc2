-- Parts of all schedules; a schedule's first calls decide its part.
use Rattle.std.specs.Prelude.{◌≡◌, ℕ, ◌+◌, ◌*◌, ◌%◌, ◌<◌, ◌⊎◌, List, fold, length, take}
use Rattle.hp_schedules.specs.Orders.{Extends}
use Rattle.hp_schedules.specs.Outcomes.{OutcomeValue}
use Rattle.hp_schedules.specs.Schedules.{EndsWith, Setting}

-- one of `of` parts, with its index from 0 on; the first `calls` calls decide a schedule's part
pub record PartValue : Type 0 where
  pub index : ℕ
  pub of : ℕ
  pub calls : ℕ

-- the index of the part that a schedule's first calls belong to. Their processors are the digits of a
-- number in base `processors`, the highest first, and the index is this number modulo `of`
abbrev pub part_number : (processors of : ℕ) → List ℕ → ℕ
part_number processors of first = fold (λ n cpu. (n * processors + cpu) % of) 0 first

-- the schedule belongs to the part
abbrev pub IsOfPart : (processors : ℕ) → PartValue → List ℕ → Type 0
IsOfPart processors part s = part_number processors part.of (take part.calls s) ≡ part.index

-- the schedule belongs to the part and is complete, with this outcome
abbrev pub EndsInPart : Setting → PartValue → List ℕ → OutcomeValue → Type 0
EndsInPart g part s x = EndsWith g s x × IsOfPart (length g.scripts) part s

-- the schedule belongs to the part and is complete
abbrev pub IsCompleteInPart : Setting → PartValue → List ℕ → Type 0
IsCompleteInPart g part s = (x : OutcomeValue) × EndsInPart g part s x

-- the search of the part comes to the place of this schedule: the schedule has fewer than `part.calls`
-- calls, or it belongs to the part
abbrev pub ComesTo : (processors : ℕ) → PartValue → List ℕ → Type 0
ComesTo processors part s = (length s < part.calls) ⊎ IsOfPart processors part s

-- ---- the places of a part's search

-- if more calls lead to the place than decide the part, the place belongs to the part
abbrev pub IsOn : (processors : ℕ) → PartValue → List ℕ → Type 0
IsOn processors part place = part.calls < length place → IsOfPart processors part place

-- all schedules that continue from the place belong to the part
abbrev pub AllOfPart : (processors : ℕ) → PartValue → List ℕ → Type 0
AllOfPart processors part place = (s : List ℕ) → Extends s place → IsOfPart processors part s
