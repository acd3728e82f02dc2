-- Conversions from the faults of the crates below, and the faults that concern the input.
use Rattle.std.specs.Prelude.{Bool, true, false}
use Rattle.hp_scenario.specs.declared.fault.ScenarioFault.{ScenarioFault}
use Rattle.hp_scenario.specs.declared.fault.ScenarioFault.TheVariants as scenario
use Rattle.hp_scripts.specs.declared.start_fault.StartFault.{StartFault}
use Rattle.hp_scripts.specs.declared.start_fault.StartFault.TheVariants as start
use Rattle.hp_streams.specs.declared.reading.ReadFault.{ReadFault}
use Rattle.hp_streams.specs.declared.reading.ReadFault.TheVariants as reading
use Rattle.hp_search.specs.declared.lab_fault.LabFault.{LabFault}
use Rattle.hp_search.specs.declared.lab_fault.LabFault.TheVariants.{NotJson, BadShape, Layout, BadLine, NotForScript, OutOfMemory}
use Rattle.hp_search.specs.declared.program_fault.LabProgramFault.{LabProgramFault}
use Rattle.hp_search.specs.declared.program_fault.LabProgramFault.TheVariants.{Lab, NotOpened, ReadFailed, Scenario, TooLong}

-- the laboratory's fault for a scenario that cannot be read. `NotForRun` never comes from reading,
-- but only from making the scripts of threads
abbrev pub fault_from : ScenarioFault → LabFault
fault_from scenario.NotJson = NotJson
fault_from scenario.BadShape = BadShape
fault_from (scenario.Layout fault) = Layout fault
fault_from (scenario.BadLine line) = BadLine line
fault_from (scenario.NotForRun line) = BadLine line
fault_from scenario.OutOfMemory = OutOfMemory

-- the laboratory's fault for a search that cannot start
abbrev pub start_fault_from : StartFault → LabFault
start_fault_from (start.NotForScript line why) = NotForScript line why
start_fault_from start.OutOfMemory = OutOfMemory

-- the program's fault for an input that cannot be read
abbrev pub read_fault_from : ReadFault → LabProgramFault
read_fault_from reading.ReadFailed = ReadFailed
read_fault_from reading.TooLong = TooLong
read_fault_from reading.OutOfMemory = Lab OutOfMemory

-- ---- the faults that concern the input

-- the fault is that the input could not be read
abbrev pub is_of_input : LabProgramFault → Bool
is_of_input NotOpened = true
is_of_input ReadFailed = true
is_of_input TooLong = true
is_of_input fault = false

-- the fault of an exploration is that the input is not a scenario
abbrev pub is_of_text : LabFault → Bool
is_of_text NotJson = true
is_of_text BadShape = true
is_of_text (Layout fault) = true
is_of_text (BadLine line) = true
is_of_text fault = false

-- the fault of a command is that the input is not a scenario
abbrev pub is_of_scenario : LabProgramFault → Bool
is_of_scenario (Scenario scenario.OutOfMemory) = false
is_of_scenario (Scenario fault) = true
is_of_scenario (Lab fault) = is_of_text fault
is_of_scenario fault = false
