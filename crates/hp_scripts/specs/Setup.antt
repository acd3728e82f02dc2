-- The machine after some lines, run in order.
use Rattle.std.specs.Prelude.{◌≡◌, ℕ, if◌then◌else◌, List, [], ◌∷◌, ◌++◌}
use Rattle.hp_machine.specs.Machine.{MachineValue}
use Rattle.hp_scripts.specs.Runs.{RunsLine}
use Rattle.hp_scenario.specs.Asked as asks
use Rattle.hp_scenario.specs.declared.lines.Line.{Line}
use Rattle.hp_scenario.specs.declared.lines.Work.{Work}
use Rattle.hp_scripts.specs.Begins.{begins_in}
use Rattle.hp_scripts.specs.declared.begins.Begin.{Begin}

-- the Begins that a line seals: all Begins of the history if the line is a seal, else none
abbrev pub begins_sealed : MachineValue → Work → List Begin
begins_sealed m w = if asks.is_seal w then begins_in m.history else []

-- running the lines in order leads from one machine to the machine `new`. `before` are the Begins that
-- were sealed before these lines, and `after` are these and the Begins that the lines sealed
abbrev pub RunsLines : MachineValue → (before : List Begin) → List Line → (new : MachineValue)
    → (after : List Begin) → Type 0
RunsLines m before [] new after = (new ≡ m) × (after ≡ before)
RunsLines m before (line ∷ lines) new after =
    (next : MachineValue) × (number : ℕ) × RunsLine m line next number
    × RunsLines next (before ++ begins_sealed m line.work) lines new after
