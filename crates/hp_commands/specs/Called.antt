-- Lines that are run as they are read.
use Rattle.std.specs.Prelude.{ℕ, List}
use Rattle.hp_machine.specs.Machine.{MachineValue}
use Rattle.hp_scenario.specs.Calls.{AreAll}
use Rattle.hp_scenario.specs.declared.calls.Calls.{Calls}
use Rattle.hp_scenario.specs.declared.lines.Line.{Line}
use Rattle.hp_commands.specs.Serial.{GrowsBy, WritesLines}

-- all lines were taken and run: each wrote its text and led to the machine after it
abbrev pub WritesAll : (old new : Calls) → (written grown : List ℕ) → (before after : MachineValue) → Type 0
WritesAll old new written grown before after =
    (lines : List Line) × AreAll old lines new
    × GrowsBy written grown (λ (text : List ℕ). WritesLines before lines text after)
