-- The names of the faults of control files, as they are printed.
use Rattle.std.specs.Prelude.{ℕ, List, codes}
use Rattle.hp_requests.specs.Names.{ControlFault, NoFile, ReadOnly, BadText, OutOfMemory, WriteOnly}

-- the name of a fault
abbrev pub fault_name : ControlFault → List ℕ
fault_name NoFile = codes "NoFile"
fault_name ReadOnly = codes "ReadOnly"
fault_name BadText = codes "BadText"
fault_name OutOfMemory = codes "OutOfMemory"
fault_name WriteOnly = codes "WriteOnly"
