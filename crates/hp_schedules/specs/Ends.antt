-- What a list of ends states about a set of schedules.
use Rattle.std.specs.Prelude.{◌≡◌, ℕ, ◌<◌, List, Some, slice_get, sum_by}
use Rattle.hp_schedules.specs.declared.tally.Ending.{Ending}
use Rattle.hp_schedules.specs.Orders.{HasCount, IsBefore, IsFirst}
use Rattle.hp_schedules.specs.Outcomes.{OutcomeValue}
use Rattle.hp_schedules.specs.Schedules.{EndsWith, Setting}

-- E s x states that the schedule s is in a set and has the outcome x. The list has one end per outcome
-- in the set, with the number of schedules that have this outcome and the first of them. The counts add
-- up to the number of schedules in the set
pub record AreCounted (E : List ℕ → OutcomeValue → Type 0) (ends : List Ending) : Type 0 where
  pub counts : (k : ℕ) (e : Ending) → slice_get ends k ≡ Some e → HasCount (λ s. E s e.outcome) e.count
  pub firsts : (k : ℕ) (e : Ending) → slice_get ends k ≡ Some e → IsFirst (λ s. E s e.outcome) e.first.items
  pub every : (s : List ℕ) (x : OutcomeValue) → E s x
      → (k : ℕ) × (e : Ending) × (slice_get ends k ≡ Some e) × (e.outcome ≡ x)
  pub apart : (i j : ℕ) (e f : Ending) → slice_get ends i ≡ Some e → slice_get ends j ≡ Some f
      → e.outcome ≡ f.outcome → i ≡ j
  pub total : HasCount (λ s. (x : OutcomeValue) × E s x) (sum_by (λ e. e.count) ends)

-- the ends count all complete schedules
abbrev pub AreEnds : Setting → List Ending → Type 0
AreEnds g ends = AreCounted (EndsWith g) ends

-- the ends are in the order of their first schedules
abbrev pub AreInOrder : List Ending → Type 0
AreInOrder ends =
    (i j : ℕ) (e f : Ending) → i < j → slice_get ends i ≡ Some e → slice_get ends j ≡ Some f
    → IsBefore e.first.items f.first.items
