-- The results of earlier lines of a script. A line may work on the operation that an earlier line
-- began, or free the kernel block that an earlier line got.
use Rattle.std.specs.Prelude.{ℕ, ◌+◌, ◌-◌, ◌==◌, nat_lt, ◌&&◌, Bool, true, false, if◌then◌else◌, List, Option, Some, None, drop, take, map, option_and_then, slice_get}
use Rattle.std.specs.List.{count_by}
use Rattle.std.specs.Option.{option_flatten, option_map}
use Rattle.hp_units.specs.Marks.{is_opening, mark_of}
use Rattle.hp_units.specs.declared.events.Event.{Event}
use Rattle.hp_units.specs.declared.events.Event.TheVariants as event
use Rattle.hp_schedules.specs.Scripts.{takes_frame}
use Rattle.hp_schedules.specs.declared.scripts.OwnWork.{OwnWork}
use Rattle.hp_schedules.specs.declared.scripts.OwnWork.TheVariants.{Latest, Nth, Free}
use Rattle.hp_schedules.specs.declared.scripts.StepWork.{StepWork}
use Rattle.hp_schedules.specs.declared.scripts.StepWork.TheVariants.{DrainFor, Migrate, Commit, Cancel}
use Rattle.hp_scenario.specs.Asked as asks
use Rattle.hp_scenario.specs.declared.lines.Line.{Line}
use Rattle.hp_scripts.specs.Begins.{line_begins}

-- ---- events

-- the work that an event does on an operation, without the operation; `None` if it does none
abbrev pub work_in : Event → Option StepWork
work_in (event.DrainFor op cpu) = Some (DrainFor cpu)
work_in (event.Migrate op) = Some Migrate
work_in (event.Commit op) = Some Commit
work_in (event.Cancel op) = Some Cancel
work_in e = None

-- the event gives a kernel block back
abbrev pub is_free : Event → Bool
is_free (event.KernelFree frame) = true
is_free e = false

-- ---- lines with a result

-- the line's work is a Begin; a plan does not count, although it begins an operation
abbrev pub asked_opens : asks.Meaning → Bool
asked_opens (asks.event e) = is_opening (mark_of e)
asked_opens m = false

-- the line's work asks for a kernel block
abbrev pub asked_allocs : asks.Meaning → Bool
asked_allocs (asks.event e) = takes_frame e
asked_allocs m = false

-- the line is one of the processor's lines, and its work is a Begin
abbrev pub line_opens : (cpu : ℕ) → Line → Bool
line_opens cpu line = (line.cpu == cpu) && asked_opens (asks.asked_by line.work)

-- the line is one of the processor's lines, and its work asks for a kernel block
abbrev pub line_allocs : (cpu : ℕ) → Line → Bool
line_allocs cpu line = (line.cpu == cpu) && asked_allocs (asks.asked_by line.work)

-- ---- work on a result

-- the work on the operation that the line at index `place` began; `earlier` has the lines before the
-- line that does the work. The operation is the processor's latest if no line of `earlier` after
-- `place` begins another, by a Begin or a plan. Otherwise it is given by how many operations the script
-- began before it
abbrev pub on_begun : (cpu : ℕ) → (earlier : List Line) → (place : ℕ) → StepWork → OwnWork
on_begun cpu earlier place w =
    if count_by (line_begins cpu) (drop (place + 1) earlier) == 0 then Latest w
    else Nth (count_by (line_begins cpu) (take place earlier)) w

-- what the work `m` of a later line does with the result of `line`, which has the index `place` in
-- `earlier`, the lines before the later one. It works on the operation that `line` began, or frees
-- the frame that `line` got, given by how many kernel blocks the script asked for before `line`.
-- `None` if `line` has no result that `m` can use, or if `m` is not an event
abbrev pub asked_on : (cpu : ℕ) → (earlier : List Line) → (place : ℕ) → Line → asks.Meaning → Option OwnWork
asked_on cpu earlier place line (asks.event e) =
    if line_opens cpu line then option_map (on_begun cpu earlier place) (work_in e)
    else
    (if line_allocs cpu line && is_free e
    then Some (Free (count_by (line_allocs cpu) (take place earlier))) else None)
asked_on cpu earlier place line m = None

-- what the line at index `place`, whose work is `m`, does with the result of its source (the line whose
-- result it works on). `None` without a source, or if the source is not an earlier line of this
-- processor with a result that `m` can use
abbrev pub named_at : (cpu : ℕ) → List Line → (sources : List (Option ℕ)) → (place : ℕ) → asks.Meaning
    → Option OwnWork
named_at cpu lines sources place m =
    option_and_then
    (λ source. option_and_then (λ line. asked_on cpu (take place lines) source line m)
    (slice_get (take place lines) source)) (option_flatten (slice_get sources place))

-- ---- sources

-- the index of a source (the line whose result another line works on) among the lines after the
-- setup; `None` if it is in the setup
abbrev pub script_source : (setup source : ℕ) → Option ℕ
script_source setup source = if nat_lt source setup then None else Some (source - setup)

-- for each line after the setup, its source (the line whose result it works on), as an index among
-- these lines
abbrev pub script_sources : (setup : ℕ) → List (Option ℕ) → List (Option ℕ)
script_sources setup sources = map (option_and_then (script_source setup)) (drop setup sources)
