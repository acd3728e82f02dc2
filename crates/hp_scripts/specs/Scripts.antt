-- The lines after the setup, as scripts.
use Rattle.std.specs.Prelude.{ℕ, ◌+◌, ◌==◌, ◌||◌, Bool, false, if◌then◌else◌, List, [], ◌∷◌, ◌++◌, Option, Some, None, map}
use Rattle.std.specs.List.{range_with_len}
use Rattle.std.specs.Option.{option_map_or}
use Rattle.hp_units.specs.declared.events.Event.{Event}
use Rattle.hp_units.specs.declared.events.Event.TheVariants as event
use Rattle.hp_schedules.specs.Scripts.{step_work_of}
use Rattle.hp_schedules.specs.declared.scripts.OwnWork.{OwnWork}
use Rattle.hp_schedules.specs.declared.scripts.OwnWork.TheVariants.{Latest}
use Rattle.hp_schedules.specs.declared.scripts.Step as step
use Rattle.hp_schedules.specs.declared.scripts.Step.TheVariants.{Ask, Own, Carry}
use Rattle.hp_schedules.specs.declared.scripts.StepWork as own
use Rattle.hp_schedules.specs.declared.scripts.StepWork.TheVariants.{DrainFor, Migrate, Commit, Cancel}
use Rattle.hp_scenario.specs.Asked as asks
use Rattle.hp_scenario.specs.declared.lines.Line.{Line}
use Rattle.hp_scripts.specs.Begins.{last_begun, line_begins}
use Rattle.hp_scripts.specs.ScriptResults.{named_at}
use Rattle.hp_scripts.specs.declared.begins.Begin.{Begin}

-- the work of an event on operation 0, which in a script is the operation that its processor began
-- last; `None` if the event works on no operation or on another one
abbrev pub own_work : Event → Option own.StepWork
own_work (event.DrainFor op cpu) = if op == 0 then Some (DrainFor cpu) else None
own_work (event.Migrate op) = if op == 0 then Some Migrate else None
own_work (event.Commit op) = if op == 0 then Some Commit else None
own_work (event.Cancel op) = if op == 0 then Some Cancel else None
own_work e = None

-- an event as a step of a script. If it works on the result of an earlier line, `named` is this
-- work. Work on operation 0 is work on the operation that the processor began last. It is `op`, the
-- last one before the scripts, unless the processor's script has begun one
abbrev pub event_step : (op : ℕ) → (begun : Bool) → (named : Option OwnWork) → Event → step.Step
event_step op begun (Some w) e = Own w
event_step op begun None e =
    option_map_or (λ w. if begun then Own (Latest w) else Ask (step_work_of op w)) (own_work e) (Ask e)

-- a line's work as a step; `None` for `cat`, for a seal, and for a text that a control file does not
-- take
abbrev pub explored : (op : ℕ) → (begun : Bool) → (named : Option OwnWork) → asks.Meaning → Option step.Step
explored op begun named (asks.event e) = Some (event_step op begun named e)
explored op begun named (asks.plan items turns) = Some (Carry items turns)
explored op begun named (asks.not_taken fault) = None
explored op begun named (asks.cat path) = None
explored op begun named asks.seal = None

-- a line as a step of a processor's script; `None` if it is not one of the processor's lines, or
-- may not be in a script
abbrev pub step_for : (cpu : ℕ) → (op : ℕ) → (begun : Bool) → (named : Option OwnWork) → Line
    → Option step.Step
step_for cpu op begun named line =
    if line.cpu == cpu then explored op begun named (asks.asked_by line.work) else None

-- the steps that a line adds to a processor's script: either one or none
abbrev pub steps_of : Option step.Step → List step.Step
steps_of None = []
steps_of (Some s) = s ∷ []

-- the steps that the lines `left`, which are `lines` from index `place` on, add to a processor's
-- script. For each line that works on the result of an earlier line, `sources` has the index of that
-- line
abbrev pub steps_in : (cpu : ℕ) → (op : ℕ) → (begun : Bool) → (lines : List Line)
    → (sources : List (Option ℕ)) → (place : ℕ) → (left : List Line) → List step.Step
steps_in cpu op begun lines sources place [] = []
steps_in cpu op begun lines sources place (line ∷ left) =
    steps_of (step_for cpu op begun (named_at cpu lines sources place (asks.asked_by line.work)) line)
    ++ steps_in cpu op (begun || line_begins cpu line) lines sources (place + 1) left

-- a processor's script; `begins` are the Begins before it
abbrev pub script_of : List Begin → List Line → (sources : List (Option ℕ)) → (cpu : ℕ) → List step.Step
script_of begins lines sources cpu = steps_in cpu (last_begun cpu begins) false lines sources 0 lines

-- the scripts of all processors, from processor 0 on
abbrev pub scripts_of : (cpus : ℕ) → List Begin → List Line → (sources : List (Option ℕ))
    → List (List step.Step)
scripts_of cpus begins lines sources = map (script_of begins lines sources) (range_with_len 0 cpus)
