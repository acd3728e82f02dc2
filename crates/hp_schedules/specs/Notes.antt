-- The changes to the list of ends when one more schedule is counted.
use Rattle.std.specs.Prelude.{◌≡◌, ℕ, ◌+◌, ◌<◌, ◌⊎◌, List, [], ◌∷◌, ◌++◌, Some, nat_eq, slice_get, slice_set, sum_by}
use Rattle.indexmap.specs.IndexMap.{ContainsKey, IndexMap}
use Rattle.hp_schedules.specs.Digests.{digest_of}
use Rattle.hp_schedules.specs.Outcomes.{OutcomeValue}
use Rattle.hp_schedules.specs.declared.trail.Share.{Share}
use Rattle.hp_schedules.specs.declared.tally.Ending.{Ending}

-- the limit on the schedules counted, the ends so far, and the trail: the shares that were added to
-- the ends
pub record TallyValue : Type 0 where
  pub limit : ℕ
  pub ends : List Ending
  pub trail : List Share

-- one more schedule may be counted
abbrev pub HasRoom : TallyValue → Type 0
HasRoom t = sum_by (λ e. e.count) t.ends < t.limit

-- the end at this index has the outcome
abbrev pub HasEndAt : List Ending → OutcomeValue → (place : ℕ) → Type 0
HasEndAt ends x place = (e : Ending) × (slice_get ends place ≡ Some e) × (e.outcome ≡ x)

-- no end has the outcome
abbrev pub HasNoEnd : List Ending → OutcomeValue → Type 0
HasNoEnd ends x = (k : ℕ) (e : Ending) → slice_get ends k ≡ Some e → e.outcome ≡ x → ⊥

-- the map has the hash of each end
abbrev pub AreKnown : {S : Type 0} → List Ending → IndexMap ℕ ℕ S → Type 0
AreKnown ends latest =
    (k : ℕ) (e : Ending) → slice_get ends k ≡ Some e → ContainsKey nat_eq latest (digest_of e.outcome)

-- an end with this outcome is there already, and its count grows by one
pub record AddsOne (old : List Ending) (x : OutcomeValue) (new : List Ending) : Type 0 where
  pub at : ℕ
  pub entry : Ending
  pub more : Ending
  pub here : slice_get old at ≡ Some entry
  pub same : entry.outcome ≡ x
  pub outcome_is : more.outcome ≡ entry.outcome
  pub count : more.count ≡ entry.count + 1
  pub first : more.first.items ≡ entry.first.items
  pub new_is : new ≡ slice_set old at more

-- no end has the outcome yet, and one is added with the count 1 and this schedule as its first
pub record AddsEnd (old : List Ending) (x : OutcomeValue) (schedule : List ℕ)
    (new : List Ending) : Type 0 where
  pub entry : Ending
  pub none : HasNoEnd old x
  pub outcome_is : entry.outcome ≡ x
  pub count : entry.count ≡ 1
  pub first : entry.first.items ≡ schedule
  pub new_is : new ≡ old ++ entry ∷ []

-- one more schedule is counted under its outcome
abbrev pub IsNoted : List Ending → OutcomeValue → List ℕ → List Ending → Type 0
IsNoted old x schedule new = AddsOne old x new ⊎ AddsEnd old x schedule new
