-- The data that a walk has at a place, and the counts that it stores when it leaves the place.
use Rattle.std.specs.Prelude.{◌≡◌, ℕ, ◌≤◌, true, List, Some, length, map}
use Rattle.hp_units.specs.declared.replies.Record.{Record}
use Rattle.hp_memory.specs.Memory.{MemoryValue}
use Rattle.hp_schedules.specs.Cursors.{AreCursors}
use Rattle.hp_schedules.specs.Ends.{AreCounted}
use Rattle.hp_schedules.specs.Parts.{AllOfPart, ComesTo, IsOn, PartValue}
use Rattle.hp_schedules.specs.Schedules.{Setting, plays, schedule_of}
use Rattle.hp_schedules.specs.Notes.{TallyValue}
use Rattle.hp_schedules.specs.Shares.{AddsShares, AreSince}
use Rattle.hp_schedules.specs.Trails.{KeepsBefore, WereCounted}
use Rattle.hp_states.specs.Places.{IsPlace}
use Rattle.hp_states.specs.Seen.{Grow, IsMemo, IsOnWay, MemoValue}
use Rattle.hp_states.specs.Walks.{BeforeInPart, IsPartWalkedBefore, IsPartWalkedThrough}
use Rattle.hp_states.specs.declared.frames.Treatment.{Treatment}
use Rattle.hp_states.specs.declared.frames.Treatment.TheVariants.{Counted, Open}
use Rattle.hp_states.specs.declared.frames.Level.{Level}
use Rattle.hp_schedules.specs.declared.cursors.Cursor.{Cursor}
use Rattle.hp_schedules.specs.declared.trail.Share.{Share}
use Rattle.hp_schedules.specs.declared.tally.Ending.{Ending}

-- the counts of these ends
abbrev pub counts_of : List Ending → List ℕ
counts_of ends = map (λ e. e.count) ends

-- when the walk reached the place, the ends `old` counted the part's schedules before it. The trail
-- (the list of what was added to the ends) then had `start` shares. Since then the ends have only
-- grown
pub record IsPlaceReached (g : Setting) (part : PartValue) (news : List Record) (tally : TallyValue)
    (start : ℕ) : Type 0 where
  pub old : List Ending
  pub counted : WereCounted tally start (counts_of old)
  pub before : AreCounted (BeforeInPart g part (schedule_of news)) old
  pub grown : Grow old tally.ends

-- the level of a place that the part's search has reached
pub record IsFrame (g : Setting) (part : PartValue) (news : List Record) (tally : TallyValue)
    (frame : Level) : Type 0 where
  pub comes : ComesTo (length g.scripts) part (schedule_of news)
  pub within : frame.start ≤ length tally.trail
  pub reached : IsPlaceReached g part news tally frame.start

-- the ends grow, and the trail (the list of what was added to them) still gives their counts at
-- each time when it had at most `start` shares
pub record GoOn (start : ℕ) (old new : TallyValue) : Type 0 where
  pub grown : Grow old.ends new.ends
  pub told : KeepsBefore start old new

-- all schedules from the place belong to one part and are walked. The shares have, for each end,
-- how many schedules were counted since the walk reached the place
pub record IsPlaceWalked (g : Setting) (news : List Record) (ends : List Ending)
    (shares : List Share) : Type 0 where
  pub part : PartValue
  pub all : AllOfPart (length g.scripts) part (schedule_of news)
  pub old : List Ending
  pub counted : AreSince (counts_of old) ends shares
  pub before : AreCounted (BeforeInPart g part (schedule_of news)) old
  pub grown : Grow old ends
  pub through : IsPartWalkedThrough g part (schedule_of news) ends

-- a level at which all processors are still to be tried
abbrev pub IsFresh : TallyValue → Level → Type 0
IsFresh tally frame = frame ≡ record { next = 0; is_over = true; start = length tally.trail }

-- either each end's count grew by its shares, and the trail (the list of what was added) still
-- gives the earlier counts; or the tally is unchanged and the place has a fresh level
abbrev pub IsAdded : (old : TallyValue) → (shares : List Share) → (new : TallyValue) → Treatment → Type 0
IsAdded old shares new Counted =
    AddsShares old.ends shares new.ends × KeepsBefore (length old.trail) old new
IsAdded old shares new (Open frame) = (new ≡ old) × IsFresh old frame

-- the treatment of a place in a part's search: either its schedules are counted, or it has a fresh
-- level
abbrev pub IsEntered : Setting → List Record → PartValue → (old new : TallyValue) → Treatment → Type 0
IsEntered g news part old new Counted =
    IsPartWalkedThrough g part (schedule_of news) new.ends × GoOn (length old.trail) old new
IsEntered g news part old new (Open frame) =
    (new ≡ old) × (frame ≡ record { next = 0; is_over = true; start = length old.trail })
    × IsFrame g part news new frame

-- for each part: if all schedules from the place belong to it, and everything of the part before the
-- place is walked, then the place is treated as IsEntered states
abbrev pub IsEnteredWithin : Setting → List Record → (old new : TallyValue) → Treatment → Type 0
IsEnteredWithin g news old new treatment =
    (part : PartValue) → AllOfPart (length g.scripts) part (schedule_of news)
    → IsPartWalkedBefore g part (schedule_of news) old.ends → IsEntered g news part old new treatment

-- ---- a walk that reaches a place or leaves it

-- a schedule leads to this place with this memory and these positions. The stored places are right. If
-- the memo's `is_on` is true, it has the numbers of this place
pub record IsStood (g : Setting) (news : List Record) (memory : MemoryValue) (cursors : List Cursor)
    (ends : List Ending) (memo : MemoValue) : Type 0 where
  pub place : IsPlace g news memory cursors
  pub memo_is : IsMemo g ends memo
  pub way : IsOnWay g news memo

-- the search of a part reaches a place
pub record IsArrival (g : Setting) (part : PartValue) (news : List Record) (memory : MemoryValue)
    (cursors : List Cursor) (ends : List Ending) (memo : MemoValue) : Type 0 where
  pub stood : IsStood g news memory cursors ends memo
  pub walked : IsPartWalkedBefore g part (schedule_of news) ends
  pub on : IsOn (length g.scripts) part (schedule_of news)

-- the search of a part leaves a place, whose level is `frame`; all schedules from there are walked
pub record IsLeaving (g : Setting) (part : PartValue) (news : List Record) (cursors : List Cursor)
    (tally : TallyValue) (memo : MemoValue) (frame : Level) : Type 0 where
  pub played : plays g (schedule_of news) ≡ Some news
  pub cursors_are : AreCursors g news cursors
  pub frame_is : IsFrame g part news tally frame
  pub through : IsPartWalkedThrough g part (schedule_of news) tally.ends
  pub memo_is : IsMemo g tally.ends memo
  pub way : IsOnWay g news memo

-- the search leaves a place that may be stored. The shares have, for each end, how many schedules
-- were counted since the search reached the place
pub record IsKeeping (g : Setting) (news : List Record) (cursors : List Cursor) (ends : List Ending)
    (shares : List Share) (memo : MemoValue) : Type 0 where
  pub played : plays g (schedule_of news) ≡ Some news
  pub cursors_are : AreCursors g news cursors
  pub walked : IsPlaceWalked g news ends shares
  pub memo_is : IsMemo g ends memo
  pub way : IsOnWay g news memo
