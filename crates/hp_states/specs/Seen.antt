-- Walked places, and the number of schedules that continue from each.
use Rattle.std.specs.Prelude.{◌≡◌, ℕ, ◌≤◌, Bool, true, List, [], ◌∷◌, ◌++◌, Some, length, slice_get, slice_index_or}
use Rattle.hp_units.specs.declared.replies.Record.{Record}
use Rattle.hp_schedules.specs.Alike.{AreMergeable}
use Rattle.hp_schedules.specs.Notes.{HasNoEnd}
use Rattle.hp_schedules.specs.Orders.{Extends, HasCount}
use Rattle.hp_schedules.specs.Outcomes.{OutcomeValue}
use Rattle.hp_schedules.specs.Schedules.{EndsWith, Setting, plays, schedule_of}
use Rattle.hp_states.specs.Standing.{IsKeyCode, IsStanding, StandingValue}
use Rattle.hp_states.specs.Walks.{HasRoomFrom}
use Rattle.hp_schedules.specs.declared.trail.Share.{Share}
use Rattle.hp_schedules.specs.declared.tally.Ending.{Ending}
use Rattle.hp_schedules.specs.Shares.{AreAtEnds, amount_of}

-- a place, given by the records that lead there. `counts` has, at each end's index, the number of
-- complete schedules that continue from the place to this end. An index past the list means 0
pub record SeenValue : Type 0 where
  pub news : List Record
  pub counts : List ℕ

-- the schedule continues from the place, with this outcome
abbrev pub GoesOn : Setting → List ℕ → OutcomeValue → List ℕ → Type 0
GoesOn g place x s = Extends s place × EndsWith g s x

-- the counts stored for a place are right for these ends
pub record IsSeen (g : Setting) (ends : List Ending) (seen : SeenValue) : Type 0 where
  pub played : plays g (schedule_of seen.news) ≡ Some seen.news
  pub few : length seen.counts ≤ length ends
  pub counted : (k : ℕ) (e : Ending) → slice_get ends k ≡ Some e
      → HasCount (GoesOn g (schedule_of seen.news) e.outcome) (slice_index_or seen.counts k 0)
  pub every : (s : List ℕ) (x : OutcomeValue) → GoesOn g (schedule_of seen.news) x s
      → (k : ℕ) × (e : Ending) × (slice_get ends k ≡ Some e) × (e.outcome ≡ x)

-- the ends keep their indexes and their outcomes, and no count gets lower; new ends have other outcomes
pub record Grow (old new : List Ending) : Type 0 where
  pub longer : length old ≤ length new
  pub kept : (k : ℕ) (e f : Ending) → slice_get old k ≡ Some e → slice_get new k ≡ Some f
      → (f.outcome ≡ e.outcome) × (e.count ≤ f.count)
  pub fresh : (k : ℕ) (f : Ending) → slice_get new k ≡ Some f → length old ≤ k → HasNoEnd old f.outcome

-- ---- the places that are kept

-- the places that a walk keeps, if it keeps any, by the codes of their keys and by their rows; the code
-- of the key written last; and the numbers of the walk's own place
pub record MemoValue : Type 0 where
  pub is_on : Bool
  pub keys : List (List ℕ)
  pub rows : List (List Share)
  pub key : List ℕ
  pub standing : StandingValue

-- `key` is the code of a place's key, and `shares` have the number of schedules that continue from the
-- place to each of these ends. The history has room for all calls from the place on
pub record IsRow (g : Setting) (ends : List Ending) (s : StandingValue) (key : List ℕ)
    (shares : List Share) : Type 0 where
  pub seen : SeenValue
  pub told : (k : ℕ) → amount_of shares k ≡ slice_index_or seen.counts k 0
  pub at_ends : AreAtEnds (length ends) shares
  pub key_is : IsKeyCode g s seen.news key
  pub seen_is : IsSeen g ends seen
  pub room : HasRoomFrom g (schedule_of seen.news)

-- a place whose key has this code is kept, with these shares
abbrev pub IsRowAmong : (keys : List (List ℕ)) → (rows : List (List Share)) → (key : List ℕ)
    → (shares : List Share) → Type 0
IsRowAmong keys rows key shares =
    (i : ℕ) × (slice_get rows i ≡ Some shares) × (slice_get keys i ≡ Some key)

-- the kept places are right for these ends. If places are to be kept, the scripts are mergeable
pub record IsMemo (g : Setting) (ends : List Ending) (memo : MemoValue) : Type 0 where
  pub all : (i : ℕ) (key : List ℕ) (shares : List Share) → slice_get memo.keys i ≡ Some key
      → slice_get memo.rows i ≡ Some shares → IsRow g ends memo.standing key shares
  pub many : length memo.keys ≡ length memo.rows
  pub mergeable : memo.is_on ≡ true → AreMergeable g.scripts

-- both memos keep the same places
abbrev pub AreSamePlaces : MemoValue → MemoValue → Type 0
AreSamePlaces old new = (new.is_on ≡ old.is_on) × (new.keys ≡ old.keys) × (new.rows ≡ old.rows)

-- one more place is kept, under the code of the key written last, with these shares
abbrev pub IsKeptMore : List Share → (old new : MemoValue) → Type 0
IsKeptMore shares old new =
    new ≡ record old { keys = old.keys ++ old.key ∷ []; rows = old.rows ++ shares ∷ [] }

-- if `is_on` is true, the memo has the numbers of the place after the new records
abbrev pub IsOnWay : Setting → List Record → MemoValue → Type 0
IsOnWay g news memo = memo.is_on ≡ true → IsStanding g news memo.standing
