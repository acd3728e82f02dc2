-- The line and the exit status at the program's end.
use Rattle.std.specs.Prelude.{ℕ, List, [], codes}
use Rattle.hp_commands.specs.FaultText.{fault_text}
use Rattle.hp_commands.specs.declared.outcome.ProgramEnd.{ProgramEnd}
use Rattle.hp_commands.specs.declared.outcome.ProgramEnd.TheVariants.{Done, NoCommand, Failed}

-- the exit status
abbrev pub status_of : ProgramEnd → ℕ
status_of Done = 0
status_of NoCommand = 2
status_of (Failed fault) = 1

-- the line for standard error
abbrev pub outcome_text : ProgramEnd → List ℕ
outcome_text Done = []
outcome_text NoCommand = codes "hotplug: serial, run or audit"
outcome_text (Failed fault) = fault_text fault
