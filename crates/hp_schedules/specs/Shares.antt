-- Shares. A share is an end and a number of schedules that lead to it, such as those that continue
-- from one place.
use Rattle.std.specs.Prelude.{◌≡◌, ℕ, ◌+◌, ◌<◌, ◌≤◌, List, Some, cond, length, nat_eq, slice_get, slice_index_or, slice_set, sum, sum_by}
use Rattle.hp_schedules.specs.Notes.{TallyValue}
use Rattle.hp_schedules.specs.declared.trail.Share.{Share}
use Rattle.hp_schedules.specs.declared.tally.Ending.{Ending}

-- the number of schedules that a share has for this end
abbrev pub count_for : (end : ℕ) → Share → ℕ
count_for end s = cond (nat_eq s.end end) s.count 0

-- the number of schedules that all shares together have for this end
abbrev pub amount_of : List Share → (end : ℕ) → ℕ
amount_of shares end = sum_by (count_for end) shares

-- each share belongs to one of the first `many` ends
abbrev pub AreAtEnds : (many : ℕ) → List Share → Type 0
AreAtEnds many shares = (i : ℕ) (s : Share) → slice_get shares i ≡ Some s → s.end < many

-- each end's count grows by the amount of its shares
pub record AddsShares (old : List Ending) (shares : List Share) (new : List Ending) : Type 0 where
  pub as_many : length new ≡ length old
  pub more : (k : ℕ) (e f : Ending) → slice_get old k ≡ Some e → slice_get new k ≡ Some f
      → (f.outcome ≡ e.outcome) × (f.first.items ≡ e.first.items)
      × (f.count ≡ e.count + amount_of shares k)

-- each end's count grows by the number at its index
pub record AddsCounts (old : List Ending) (counts : List ℕ) (new : List Ending) : Type 0 where
  pub as_many : length new ≡ length old
  pub more : (k : ℕ) (e f : Ending) → slice_get old k ≡ Some e → slice_get new k ≡ Some f
      → (f.outcome ≡ e.outcome) × (f.first.items ≡ e.first.items)
      × (f.count ≡ e.count + slice_index_or counts k 0)

-- `earlier` are the counts of the ends at an earlier time, 0 for an end that was not there yet.
-- Each end's count has grown since then by the amount of its shares, and each share belongs to an
-- end
pub record AreSince (earlier : List ℕ) (ends : List Ending) (shares : List Share) : Type 0 where
  pub at_ends : AreAtEnds (length ends) shares
  pub each : (k : ℕ) (e : Ending) → slice_get ends k ≡ Some e
      → slice_index_or earlier k 0 + amount_of shares k ≡ e.count

-- the count of the end at this index grows by `count`
pub record AddsAt (old : List Ending) (at count : ℕ) (new : List Ending) : Type 0 where
  pub entry : Ending
  pub more : Ending
  pub here : slice_get old at ≡ Some entry
  pub outcome_is : more.outcome ≡ entry.outcome
  pub count_is : more.count ≡ entry.count + count
  pub first : more.first.items ≡ entry.first.items
  pub new_is : new ≡ slice_set old at more

-- the limit allows as many more schedules as these counts add up to
abbrev pub HasRoomFor : TallyValue → List ℕ → Type 0
HasRoomFor t counts = sum_by (λ e. e.count) t.ends + sum counts ≤ t.limit

-- the limit allows as many more schedules as these shares add up to
abbrev pub HasRoomForShares : TallyValue → List Share → Type 0
HasRoomForShares t shares = sum_by (λ e. e.count) t.ends + sum_by (λ s. s.count) shares ≤ t.limit
