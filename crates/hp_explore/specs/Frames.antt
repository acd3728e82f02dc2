-- The stack of a walk: one level for each place on its path.
use Rattle.std.specs.Prelude.{◌≡◌, ℕ, ◌+◌, ◌-◌, ◌*◌, ◌^◌, ◌<◌, ◌≤◌, ◌⊎◌, Bool, true, false, List, [], ◌∷◌, ◌++◌, Some, length, reverse}
use Rattle.hp_units.specs.declared.events.Event.{Event}
use Rattle.hp_units.specs.declared.replies.Record.{Record}
use Rattle.hp_states.specs.Rooms.{is_full_after}
use Rattle.hp_states.specs.Frames.{IsFrame}
use Rattle.hp_schedules.specs.Notes.{TallyValue}
use Rattle.hp_schedules.specs.Parts.{IsOn, PartValue}
use Rattle.hp_schedules.specs.Schedules.{Setting, next_call, plays, schedule_of}
use Rattle.hp_explore.specs.Fronts.{AreFirstInPart, counted}
use Rattle.hp_states.specs.Seen.{IsMemo, IsOnWay}
use Rattle.hp_states.specs.Walks.{IsOverBelow, IsPartWalkedBefore, IsPartWalkedThrough}
use Rattle.hp_states.specs.declared.frames.Level.{Level}
use Rattle.hp_schedules.specs.declared.tally.Ending.{Ending}
use Rattle.hp_explore.specs.declared.walk.Turned.{Turned}
use Rattle.hp_explore.specs.declared.walk.Turned.TheVariants.{On, Over, Full}
use Rattle.hp_explore.specs.declared.walk.Walk.{Walk}

-- everything of the part that comes before a call of the level's next processor is walked. If `is_over`
-- is true, no processor before that one has a call to make; if it is false, some processor has one
pub record AreTurns (g : Setting) (part : PartValue) (news : List Record) (ends : List Ending)
    (frame : Level) : Type 0 where
  pub walked : IsPartWalkedBefore g part (schedule_of news ++ frame.next ∷ []) ends
  pub over : IsOverBelow g news frame.next frame.is_over
  pub within : frame.next ≤ length g.scripts

-- the levels below the top of the stack, latest first. At each, the processor before `next` made
-- the call that leads to the place above, and the history had room for it. A level's `start` is how
-- long the trail (the list of what was added to the ends) was when the walk came to its place. It
-- is not greater than that of the level above, or than `most` at the first of these levels
abbrev pub AreBelow : Setting → PartValue → TallyValue → (most : ℕ) → List Record → List Level → Type 0
AreBelow g part tally most news [] = news ≡ []
AreBelow g part tally most news (frame ∷ frames) =
    (before : List Record) × (r : Record) × (event : Event) × (news ≡ before ++ r ∷ [])
    × (frame.next ≡ r.cpu + 1) × (frame.is_over ≡ false) × (next_call g r.cpu before ≡ Some event)
    × (r.cpu < length g.scripts) × (plays g (schedule_of before) ≡ Some before)
    × (is_full_after g before ≡ false) × IsFrame g part before tally frame
    × AreBelow g part tally frame.start before frames × (frame.start ≤ most)

-- all levels of a walk, latest first. If there are none, everything of the part is walked
abbrev pub AreWalked : Setting → PartValue → TallyValue → List Record → List Level → Type 0
AreWalked g part tally news [] = IsPartWalkedThrough g part [] tally.ends
AreWalked g part tally news (frame ∷ frames) =
    AreTurns g part news tally.ends frame × IsFrame g part news tally frame
    × AreBelow g part tally frame.start news frames

-- ---- the walk

-- the invariant of a walk whose levels, latest first, are `frames`
pub record IsWalking (w : Walk) (frames : List Level) : Type 0 where
  pub walked : AreWalked w.path.setting w.part w.tally w.path.news frames
  pub memo : IsMemo w.path.setting w.tally.ends w.memo
  pub way : IsOnWay w.path.setting w.path.news w.memo
  pub processors : w.processors ≡ length w.path.setting.scripts
  pub few : w.processors < 2 ^ 32
  pub short : length w.path.news ≤ w.path.setting.layout.history

-- the levels of the walk, latest first
abbrev pub frames_of : Walk → List Level
frames_of w = reverse w.frames.items

-- a number with one digit per level, in which a later level counts less
abbrev pub digits : (processors : ℕ) → List Level → ℕ
digits n [] = 0
digits n (frame ∷ frames) = digits n frames * (n + 2) + (n + 1 - frame.next)

-- the measure of the work left to a walk with these levels, which each step makes smaller
abbrev pub left_of : (processors most : ℕ) → List Level → ℕ
left_of n most frames = digits n frames * (n + 2) ^ (most + 1 - length frames)

-- the measure of the work left to this walk
abbrev pub left : Walk → List Level → ℕ
left w frames = left_of w.processors w.path.setting.layout.history frames

-- the measure of the work left when the walk has reached a place that has no level yet; `frames` are
-- the levels below
abbrev pub left_before : Walk → List Level → ℕ
left_before w frames =
    (digits w.processors frames + 1)
    * (w.processors + 2) ^ (w.path.setting.layout.history + 1 - length frames)

-- the walk keeps its setting, its part and its limit
abbrev pub IsSameWalk : Walk → Walk → Type 0
IsSameWalk old new =
    (new.path.setting ≡ old.path.setting) × (new.tally.limit ≡ old.tally.limit) × (new.part ≡ old.part)

-- the walk begins, or has just reached a place by a call. Everything of the part before the place is
-- walked; `frames` are the levels below, latest first
pub record IsComing (w : Walk) (frames : List Level) : Type 0 where
  pub walked : IsPartWalkedBefore w.path.setting w.part (schedule_of w.path.news) w.tally.ends
  pub on : IsOn (length w.path.setting.scripts) w.part (schedule_of w.path.news)
  pub below : AreBelow w.path.setting w.part w.tally (length w.tally.trail) w.path.news frames
  pub memo : IsMemo w.path.setting w.tally.ends w.memo
  pub way : IsOnWay w.path.setting w.path.news w.memo
  pub processors : w.processors ≡ length w.path.setting.scripts
  pub few : w.processors < 2 ^ 32
  pub short : length w.path.news ≤ w.path.setting.layout.history

-- if the walk has stopped, its watch (which may end a search early) has ended it
abbrev pub IsEndedBy : (ended : Type 0) → Walk → Type 0
IsEndedBy ended w = w.reach.is_stopped ≡ true → ended

-- there is another schedule to count, but either the limit is reached or the walk has stopped
pub record IsHalted (w : Walk) : Type 0 where
  pub first : AreFirstInPart w.path.setting w.part (counted w.tally.ends) w.tally.ends
  pub cause : (counted w.tally.ends ≡ w.tally.limit) ⊎ (w.reach.is_stopped ≡ true)

-- the result of a step: either less work is left, or all is walked, or the walk halts before another
-- schedule
abbrev pub IsTurnedTo : (old new : Walk) → Turned → Type 0
IsTurnedTo old new On =
    IsWalking new (frames_of new) × (left new (frames_of new) < left old (frames_of old))
IsTurnedTo old new Over = IsPartWalkedThrough new.path.setting new.part [] new.tally.ends
IsTurnedTo old new Full = IsHalted new

-- the result of the whole walk: either all is walked, or the walk halted before another schedule
abbrev pub IsDone : Walk → (is_whole : Bool) → Type 0
IsDone w true = IsPartWalkedThrough w.path.setting w.part [] w.tally.ends
IsDone w false = IsHalted w
