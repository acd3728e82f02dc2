-- The texts of the faults.
use Rattle.std.specs.Prelude.{ℕ, List, [], ◌++◌, codes}
use Rattle.std.specs.Fmt.{decimal}
use Rattle.hp_units.specs.Texts.{layout_fault_text}
use Rattle.hp_commands.specs.declared.fault.ProgramFault.{ProgramFault}
use Rattle.hp_commands.specs.declared.fault.ProgramFault.TheVariants.{ReadFailed, TooLong, NotJson, BadShape, Layout, BadLine, NotForRun, OutOfMemory, NotStarted, SeatMissing, Mismatch, WrongReply, WrongSerial, AuditDiffers, WriteFailed, BrokenChain}
use Rattle.hp_commands.specs.declared.fault.Said.{Said}
use Rattle.hp_commands.specs.declared.fault.Said.TheVariants.{Nothing, Number, Layout as OfLayout}

abbrev pub fault_text : ProgramFault → List ℕ
fault_text ReadFailed = codes "hotplug: reading failed"
fault_text TooLong = codes "hotplug: input too long"
fault_text NotJson = codes "hotplug: not JSON"
fault_text BadShape = codes "hotplug: wrong shape"
fault_text (Layout fault) = codes "hotplug: layout fault " ++ layout_fault_text fault
fault_text (BadLine line) = codes "hotplug: line " ++ decimal line ++ codes " not understood"
fault_text (NotForRun line) = codes "hotplug: line " ++ decimal line ++ codes " not for run"
fault_text OutOfMemory = codes "hotplug: out of memory"
fault_text (NotStarted cpu) = codes "hotplug: worker " ++ decimal cpu ++ codes " not started"
fault_text SeatMissing = codes "hotplug: seat missing"
fault_text (Mismatch serial) = codes "hotplug: record " ++ decimal serial ++ codes " does not match"
fault_text (WrongReply serial) = codes "hotplug: audit fault at record " ++ decimal serial
fault_text (WrongSerial at) = codes "hotplug: audit fault at position " ++ decimal at
fault_text AuditDiffers = codes "hotplug: audit differs"
fault_text WriteFailed = codes "hotplug: writing failed"
fault_text (BrokenChain at) = codes "hotplug: volume " ++ decimal at ++ codes " does not follow"

-- the middle piece of a fault's text
abbrev pub said_text : Said → List ℕ
said_text Nothing = []
said_text (Number number) = decimal number
said_text (OfLayout fault) = layout_fault_text fault
