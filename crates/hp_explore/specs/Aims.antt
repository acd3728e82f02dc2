-- The aim of a search: the schedules that it looks for, the places that it may come to, and its result.
use Rattle.std.specs.Prelude.{◌≡◌, ℕ, zero, suc, List, [], ◌∷◌, ◌++◌, Option, Some, None, length}
use Rattle.hp_units.specs.declared.replies.Record.{Record}
use Rattle.hp_schedules.specs.Alike.{AreMergeable}
use Rattle.hp_schedules.specs.Continuing.{ContinueAlike}
use Rattle.hp_schedules.specs.Cursors.{IsSteered}
use Rattle.hp_schedules.specs.Orders.{Extends, IsBefore}
use Rattle.hp_schedules.specs.Schedules.{Setting, plays, schedule_of}
use Rattle.hp_states.specs.Rooms.{HasNoRoom}
use Rattle.hp_states.specs.Walks.{HasRoomFrom}
use Rattle.hp_explore.specs.Faults.{FillsHistory}
use Rattle.hp_explore.specs.Reaching.{HasRoomAlong}
use Rattle.hp_explore.specs.declared.exploring.ExploreFault.{ExploreFault}
use Rattle.hp_explore.specs.declared.exploring.ExploreFault.TheVariants as explore
use Rattle.hp_explore.specs.declared.fault.FindFault.{FindFault}
use Rattle.hp_explore.specs.declared.fault.FindFault.TheVariants.{HistoryFull, OutOfMemory, Stopped}

-- ---- aims

-- the parts of an aim, for one setting. A place is given by the schedule that leads to it
pub record AimValue : Type 1 where
  -- the schedules that are looked for
  pub sought : List ℕ → Type 0
  -- the schedules that a search may return
  pub found : List ℕ → Type 0
  -- the places that the search may come to
  pub admits : List ℕ → Type 0
  -- the processors whose next call the search may try at an admitted place. This does not depend on the
  -- reply
  pub tries : List ℕ → (cpu : ℕ) → Type 0
  -- numbers of the place after these records. With the rest of the place's key, they decide which
  -- continuations of the place are sought
  pub marks : List Record → List ℕ → Type 0
  -- the search has to come to every place, so that it finds each call for which the history has no room
  pub is_whole : Type 0

-- no sought schedule is before the place
abbrev pub NoneBefore : AimValue → (place : List ℕ) → Type 0
NoneBefore aim place = (s : List ℕ) → aim.sought s → IsBefore s place → ⊥

-- no sought schedule continues from the place
abbrev pub NoneFrom : AimValue → (place : List ℕ) → Type 0
NoneFrom aim place = (s : List ℕ) → aim.sought s → Extends s place → ⊥

-- the search may leave the place out: no sought schedule continues from it, and the search need not come
-- to every place
abbrev pub MayBeSkipped : AimValue → (place : List ℕ) → Type 0
MayBeSkipped aim place = NoneFrom aim place × (aim.is_whole → ⊥)

-- the call that led to the place may be tried from the place before it, which is admitted
pub record IsTried (aim : AimValue) (place : List ℕ) : Type 0 where
  pub before : List ℕ
  pub cpu : ℕ
  pub longer : place ≡ before ++ cpu ∷ []
  pub from : aim.admits before
  pub tried : aim.tries before cpu

-- the new aim seeks only schedules that the old one seeks, and admits each place that the old one
-- admits, with the same marks. It has to come to every place only if the old one has to
pub record IsNarrower (old new : AimValue) : Type 0 where
  pub sought : (s : List ℕ) → new.sought s → old.sought s
  pub admits : (s : List ℕ) → old.admits s → new.admits s
  pub marks : (news : List Record) (numbers : List ℕ) → old.marks news numbers → new.marks news numbers
  pub whole : new.is_whole → old.is_whole

-- ---- equivalent places

-- the numbers of the positions (IsSteered) of the processors below `cpus`, one processor after
-- another; `f` renumbers the operations
abbrev pub AreSteered : (f : ℕ → ℕ) → Setting → (cpus : ℕ) → List Record → List ℕ → Type 0
AreSteered f g zero news numbers = numbers ≡ []
AreSteered f g (suc cpus) news numbers =
    (rest : List ℕ) × (part : List ℕ) × (numbers ≡ rest ++ part)
    × IsSteered f g cpus news part × AreSteered f g cpus news rest

-- two places have equal keys, apart from the marks: the calls that continue from both, and the states to
-- which they lead, differ only in the numbers of operations
pub record HaveSameKey (g : Setting) (first second : List Record) : Type 0 where
  pub mergeable : AreMergeable g.scripts
  pub first_played : plays g (schedule_of first) ≡ Some first
  pub second_played : plays g (schedule_of second) ≡ Some second
  pub alike : ContinueAlike g first second
  pub first_numbers : ℕ → ℕ
  pub second_numbers : ℕ → ℕ
  pub steering : List ℕ
  pub first_steered : AreSteered first_numbers g (length g.scripts) first steering
  pub second_steered : AreSteered second_numbers g (length g.scripts) second steering

-- the laws of an aim, on which the search relies. Each sought schedule can be played. Equally many calls
-- lead to places with the same marks. From admitted places with the same key and marks, the same
-- continuations are sought
pub record IsLawful (g : Setting) (aim : AimValue) : Type 0 where
  pub played : (s : List ℕ) → aim.sought s → (news : List Record) × (plays g s ≡ Some news)
  pub counted : (first second : List Record) (marks : List ℕ)
      → plays g (schedule_of first) ≡ Some first → plays g (schedule_of second) ≡ Some second
      → aim.marks first marks → aim.marks second marks → length first ≡ length second
  pub continued : (first second : List Record) (marks rest : List ℕ) → HaveSameKey g first second
      → aim.admits (schedule_of first) → aim.admits (schedule_of second)
      → aim.marks first marks → aim.marks second marks
      → aim.sought (schedule_of first ++ rest) → aim.sought (schedule_of second ++ rest)

-- ---- results

-- no sought schedule continues from the place. If the search has to come to every place, the history
-- also has room for each call from there on
abbrev pub IsDone : Setting → AimValue → (place : List ℕ) → Type 0
IsDone g aim place = NoneFrom aim place × (aim.is_whole → HasRoomFrom g place)

-- if the result is a schedule, the search may return it, and the history has room for each of its calls.
-- No sought schedule comes before it, or continues it by further calls. If the result is None, no
-- schedule is sought. If the search has to come to every place, None also means that the history has
-- room for each call
abbrev pub IsFirstSought : Setting → AimValue → Option (List ℕ) → Type 0
IsFirstSought g aim None = ((s : List ℕ) → aim.sought s → ⊥) × (aim.is_whole → FillsHistory g → ⊥)
IsFirstSought g aim (Some s) =
    aim.found s × NoneBefore aim s × ((t : List ℕ) → aim.sought t → Extends t s → t ≡ s) × HasRoomAlong g s

-- the history has no room for a call that may be tried, and no sought schedule is before that call
pub record FillsSearch (g : Setting) (aim : AimValue) : Type 0 where
  pub place : List ℕ
  pub call : HasNoRoom g place
  pub admitted : aim.admits place
  pub tried : aim.tries place call.cpu
  pub none : NoneBefore aim (place ++ call.cpu ∷ [])

-- the cause of a fault in one step of the search
abbrev pub IsTurnCause : Setting → AimValue → ExploreFault → Type 0
IsTurnCause g aim explore.HistoryFull = FillsSearch g aim
IsTurnCause g aim explore.OutOfMemory = Unit {0}

-- the cause of a fault of the whole search
abbrev pub IsSearchCause : Setting → AimValue → FindFault → Type 0
IsSearchCause g aim HistoryFull = FillsSearch g aim
IsSearchCause g aim OutOfMemory = Unit {0}
IsSearchCause g aim Stopped = Unit {0}
