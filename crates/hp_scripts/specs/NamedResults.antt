-- The call of a line that names the result of an earlier line: it works on the result of that line's
-- call.
use Rattle.std.specs.Prelude.{◌≡◌, ℕ, List, [], ◌∷◌, ◌++◌, Option, Some, false, slice_get, take}
use Rattle.hp_units.specs.declared.events.Event.{Event}
use Rattle.hp_units.specs.declared.events.Event.TheVariants.{KernelFree, DrainFor, Migrate, Commit, Cancel}
use Rattle.hp_units.specs.declared.replies.Receipt.{Receipt}
use Rattle.hp_scenario.specs.Asked as asks
use Rattle.hp_scenario.specs.declared.lines.Line.{Line}
use Rattle.hp_schedules.specs.Scripts.{after_lines, frame_in, nothing_known}
use Rattle.hp_schedules.specs.declared.scripts.Step.{Step}
use Rattle.hp_scripts.specs.Begins.{last_begun}
use Rattle.hp_scripts.specs.Scripts.{steps_in}
use Rattle.hp_scripts.specs.declared.begins.Begin.{Begin}

-- the steps of a processor's script that come from the lines before index `place`
abbrev pub steps_before : List Begin → List Line → (sources : List (Option ℕ)) → (cpu place : ℕ) → List Step
steps_before begins lines sources cpu place =
    steps_in cpu (last_begun cpu begins) false lines sources 0 (take place lines)

-- the processor's lines before index `place` are finished with these receipts, and none of the receipts
-- is left over. The receipts' events are not compared with those of the lines
abbrev pub AreOfLinesBefore : (cpus : ℕ) → List Begin → List Line → (sources : List (Option ℕ))
    → (cpu place : ℕ) → List Receipt → Type 0
AreOfLinesBefore cpus begins lines sources cpu place receipts =
    after_lines cpus nothing_known (steps_before begins lines sources cpu place) receipts ≡ Some []

-- `call` is the call of the processor's line at index `source`, whose work is an event. It comes
-- after the calls of the processor's lines before that line
pub record IsCallOf (cpus : ℕ) (begins : List Begin) (lines : List Line) (sources : List (Option ℕ))
    (cpu source : ℕ) (receipts : List Receipt) (call : Receipt) : Type 0 where
  pub line : Line
  pub here : slice_get lines source ≡ Some line
  pub own : line.cpu ≡ cpu
  pub asked : asks.asked_by line.work ≡ asks.event call.event
  pub before : List Receipt
  pub later : List Receipt
  pub whole : receipts ≡ before ++ call ∷ later
  pub over : AreOfLinesBefore cpus begins lines sources cpu source before

-- the event with a call's result instead of its operation or frame: the call's serial as the operation,
-- or the frame in the call's reply. Any other event stays as it is
abbrev pub event_on : Receipt → Event → Event
event_on call (DrainFor op cpu) = DrainFor call.serial cpu
event_on call (Migrate op) = Migrate call.serial
event_on call (Commit op) = Commit call.serial
event_on call (Cancel op) = Cancel call.serial
event_on call (KernelFree frame) = KernelFree (frame_in call.reply)
event_on call e = e
