-- What the program has written.
use Rattle.std.specs.Prelude.{◌≡◌, ℕ, List, ◌++◌, Option, Ok, IfSome}
use Rattle.std.specs.Io.KnownBytes.{Appends}
use Rattle.hp_machine.specs.Machine.{MachineValue, booted}
use Rattle.hp_scenario.specs.Scenario.{ScenarioValue, scenario_in}
use Rattle.hp_commands.specs.declared.commands.Command.{Command}
use Rattle.hp_commands.specs.declared.commands.Command.TheVariants.{Serial, Run, Audit}
use Rattle.hp_commands.specs.Runs.{IsAuditTextOf, IsRunTextOf}
use Rattle.hp_commands.specs.Serial.{serial_text, end_text, WritesLines, IsWhole}

-- the text is that of a run of the scenario's lines, with the state after them; if no line of it
-- ends with `OutOfMemory`, it is the scenario's text
pub record IsTextOf (input text : List ℕ) : Type 0 where
  pub scenario : ScenarioValue
  pub read : scenario_in input ≡ Ok scenario
  pub lines : List ℕ
  pub machine : MachineValue
  pub run : WritesLines (booted scenario.layout) scenario.lines lines machine
  pub end : text ≡ lines ++ end_text scenario.names machine
  pub whole : IsWhole text → serial_text input ≡ Ok text

-- if the bytes that were read are known, the text of their scenario was written, and nothing else
abbrev pub WritesTextOf : (known old new : Option (List ℕ)) → Type 0
WritesTextOf known old new =
    IfSome known (λ input. (text : List ℕ) × Appends old new text × IsTextOf input text)

-- the text that a command makes of its input
abbrev pub IsOutputOf : Command → (input text : List ℕ) → Type 0
IsOutputOf Serial input text = IsTextOf input text
IsOutputOf Run input text = IsRunTextOf input text
IsOutputOf Audit input text = IsAuditTextOf input text

-- if the bytes that were read are known, the text that the command makes of them was written, and
-- nothing else
abbrev pub Serves : Command → (known old new : Option (List ℕ)) → Type 0
Serves command known old new =
    IfSome known (λ input. (text : List ℕ) × Appends old new text × IsOutputOf command input text)
