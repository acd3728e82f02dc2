-- The text of the fault of a control file.
use Rattle.std.specs.Prelude.{ℕ, List, ◌++◌, codes}
use Rattle.hp_requests.specs.declared.fault.ControlFault.{ControlFault}
use Rattle.hp_requests.specs.FaultName.{fault_name}
use Rattle.hp_text.specs.State.{newline}

-- the line with the reason why a control file was not read
abbrev pub read_fault_line : ControlFault → List ℕ
read_fault_line fault = codes "cat: fault " ++ fault_name fault ++ newline

-- the line with the reason why a control file did not take a text
abbrev pub write_fault_line : ControlFault → List ℕ
write_fault_line fault = codes "echo: fault " ++ fault_name fault ++ newline
