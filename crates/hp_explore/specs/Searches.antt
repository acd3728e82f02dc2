-- The progress of a search.
use Rattle.std.specs.Prelude.{◌≡◌, ℕ, zero, suc, ◌+◌, ◌-◌, ◌*◌, ◌%◌, ◌<◌, true, nat_lt, if◌then◌else◌, List, [], ◌∷◌, ◌++◌, Some, length}
use Rattle.hp_schedules.specs.Alike.{AreMergeable}
use Rattle.hp_schedules.specs.Digests.{mixed}
use Rattle.hp_schedules.specs.Orders.{Extends}
use Rattle.hp_schedules.specs.Schedules.{Setting, schedule_of}
use Rattle.hp_states.specs.Interned.{KeepNumbers}
use Rattle.hp_states.specs.Rooms.{HasNoRoom}
use Rattle.hp_explore.specs.Aims.{AimValue, IsDone, IsFirstSought, IsTried, NoneFrom}
use Rattle.hp_explore.specs.Paths.{PathValue}
use Rattle.hp_explore.specs.Reaching.{HasRoomAlong}
use Rattle.hp_explore.specs.Visited.{AreFollowed, AreVisited}
use Rattle.hp_explore.specs.declared.searching.Search.{Search}
use Rattle.hp_explore.specs.declared.searching.SearchTurn.{SearchTurn}
use Rattle.hp_explore.specs.declared.searching.SearchTurn.TheVariants.{On, New, Found, Over}
use Rattle.hp_explore.specs.declared.visited.Visited.{Visited}

-- ---- the order of the processors

-- the processor that a search tries first at the places after `depth` calls: by its seed alone, if this
-- is below `processors`
abbrev pub first_at : (processors seed depth : ℕ) → ℕ
first_at processors seed depth =
    if nat_lt seed processors then seed else mixed seed depth % processors

-- the processor whose call is tried as number `number` at a place. Of `processors`, `first` is tried as
-- number 0, then those above it, and then those below it, from processor 0 on
abbrev pub turn_of : (processors first number : ℕ) → ℕ
turn_of processors first number =
    if nat_lt number (processors - first) then first + number else number - (processors - first)

-- the number as which the processor's call is tried there
abbrev pub number_of : (processors first cpu : ℕ) → ℕ
number_of processors first cpu =
    if nat_lt cpu first then cpu + (processors - first) else cpu - first

-- the processor that a search with this seed tries as number `number` after `depth` calls
abbrev pub cpu_at : (processors seed depth number : ℕ) → ℕ
cpu_at processors seed depth number = turn_of processors (first_at processors seed depth) number

-- the number as which it tries the processor there
abbrev pub number_at : (processors seed depth cpu : ℕ) → ℕ
number_at processors seed depth cpu = number_of processors (first_at processors seed depth) cpu

-- ---- the number of steps left

-- a bound on the number of steps that a search takes after one call at a place, until it has taken that
-- call back. At the place, `calls` calls may still be made, each by one of `processors` processors
abbrev pub turns_below : (processors calls : ℕ) → ℕ
turns_below processors zero = 0
turns_below processors (suc calls) = processors * (turns_below processors calls + 2) + 1

-- a bound on the number of steps left to a search that tries the call with the number `next` next, at
-- the place to which the calls with these numbers lead. At the beginning of the scripts, `calls` calls
-- may be made
abbrev pub turns_left : (processors calls : ℕ) → (numbers : List ℕ) → (next : ℕ) → ℕ
turns_left processors calls [] next = (processors - next) * (turns_below processors calls + 2) + 1
turns_left processors calls (number ∷ numbers) next =
    (processors - (number + 1)) * (turns_below processors calls + 2) + 1
    + turns_left processors (calls - 1) numbers next

-- the number of records for which the history has room when the scripts begin
abbrev pub room_of : Setting → ℕ
room_of g = g.layout.history - length g.start

-- the numbers as which the schedule's calls are tried, after `depth` other calls
abbrev pub numbers_from : (processors seed depth : ℕ) → (schedule : List ℕ) → List ℕ
numbers_from processors seed depth [] = []
numbers_from processors seed depth (cpu ∷ schedule) =
    number_at processors seed depth cpu ∷ numbers_from processors seed (depth + 1) schedule

-- a bound on the number of steps left to a search with this seed that tries the call with the number
-- `next` next, at the place of the path
abbrev pub turns_at : (seed : ℕ) → PathValue → (next : ℕ) → ℕ
turns_at seed p next =
    turns_left (length p.setting.scripts) (room_of p.setting)
    (numbers_from (length p.setting.scripts) seed 0 (schedule_of p.news)) next

-- ---- the calls that were tried

-- the call that leads to the place is done with: no sought schedule continues from the place. If the
-- search has to come to every place, the history also has room for that call, if it can be made, and
-- for each call from the place on
abbrev pub IsCallDone : Setting → AimValue → (place : List ℕ) → Type 0
IsCallDone g aim place =
    NoneFrom aim place
    × (aim.is_whole → (s : List ℕ) (h : HasNoRoom g s) → Extends (s ++ h.cpu ∷ []) place → ⊥)

-- the place is admitted, and the first `count` calls that are tried there are done with
abbrev pub IsTriedTo : Setting → AimValue → (seed : ℕ) → (place : List ℕ) → (count : ℕ) → Type 0
IsTriedTo g aim seed place count =
    aim.admits place
    × ((cpu : ℕ) → cpu < length g.scripts → number_at (length g.scripts) seed (length place) cpu < count
    → IsCallDone g aim (place ++ cpu ∷ []))

-- each place on the path before this one is admitted, and the calls that are tried there before the one
-- that leads on are done with
abbrev pub AreTriedTo : Setting → AimValue → (seed : ℕ) → (place : List ℕ) → Type 0
AreTriedTo g aim seed place =
    (before : List ℕ) (cpu : ℕ) → Extends place (before ++ cpu ∷ [])
    → IsTriedTo g aim seed before (number_at (length g.scripts) seed (length before) cpu)

-- ---- a search

-- a search with this seed is at the place of the path, or has just come to it
pub record IsPlaced (aim : AimValue) (seed : ℕ) (p : PathValue) (v : Visited) : Type 0 where
  pub along : HasRoomAlong p.setting (schedule_of p.news)
  pub earlier : AreTriedTo p.setting aim seed (schedule_of p.news)
  pub way : AreFollowed p.setting p.news v
  pub base : KeepNumbers ([] ∷ []) v.stops.lists

-- the search is at an admitted place, and tries the call with the number `next` there next
pub record IsTrying (aim : AimValue) (seed : ℕ) (p : PathValue) (next : ℕ) (v : Visited) : Type 0 where
  pub placed : IsPlaced aim seed p v
  pub tried : IsTriedTo p.setting aim seed (schedule_of p.news) next
  pub visited : AreVisited p.setting aim (schedule_of p.news) v

-- the search has just come to its place, by a call that may be tried. Each stored key belongs to a place
-- that is done, or that is on the path before this place
pub record IsArriving (aim : AimValue) (seed : ℕ) (p : PathValue) (v : Visited) : Type 0 where
  pub placed : IsPlaced aim seed p v
  pub call : IsTried aim (schedule_of p.news)
  pub visited : AreVisited p.setting aim call.before v

-- the search is done with its place
pub record IsLeaving (aim : AimValue) (seed : ℕ) (p : PathValue) (v : Visited) : Type 0 where
  pub placed : IsPlaced aim seed p v
  pub visited : AreVisited p.setting aim (schedule_of p.news) v
  pub done : IsDone p.setting aim (schedule_of p.news)

-- a search before any call
pub record IsBegun (g : Setting) (w : Search) : Type 0 where
  pub path : w.path ≡ record { setting = g; news = [] }
  pub schedule : w.schedule ≡ []
  pub next : w.next ≡ 0
  pub none : w.visited.keys ≡ []
  pub mergeable : w.visited.is_on ≡ true → AreMergeable g.scripts
  pub way : AreFollowed g [] w.visited
  pub base : KeepNumbers ([] ∷ []) w.visited.stops.lists

-- ---- the result of a step

-- the search goes on in the setting `g`, with fewer steps left than `most`. What `keeps` says of its
-- table of places holds at its place
pub record IsOn (aim : AimValue) (seed : ℕ) (keeps : PathValue → Type 0) (g : Setting) (most : ℕ)
    (w : Search) : Type 0 where
  pub schedule : w.schedule ≡ schedule_of w.path.news
  pub trying : IsTrying aim seed w.path w.next w.visited
  pub kept : keeps w.path
  pub same : w.path.setting ≡ g
  pub fewer : turns_at seed w.path w.next < most

-- the result of one step: either the search went on, or it found a schedule that the aim lets it return,
-- or no schedule is left. With the seed 0, it is the first schedule that is sought
abbrev pub HasTurned : AimValue → (seed : ℕ) → (keeps : PathValue → Type 0) → Setting → (most : ℕ) → Search
    → SearchTurn → Type 0
HasTurned aim seed keeps g most w On = IsOn aim seed keeps g most w
HasTurned aim seed keeps g most w New = IsOn aim seed keeps g most w
HasTurned aim seed keeps g most w Found = seed ≡ 0 → IsFirstSought g aim (Some w.schedule)
HasTurned aim seed keeps g most w Over = IsDone g aim []
