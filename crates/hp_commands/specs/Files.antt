-- The text of a line that reads a control file.
use Rattle.std.specs.Prelude.{◌≡◌, ◌⊎◌, ℕ, List, Result, Ok, Err}
use Rattle.hp_machine.specs.Machine.{MachineValue}
use Rattle.hp_requests.specs.declared.fault.ControlFault.{ControlFault}
use Rattle.hp_requests.specs.declared.fault.ControlFault.TheVariants.{OutOfMemory}
use Rattle.hp_text.specs.ControlFiles.{file_text}
use Rattle.hp_text.specs.FileFaults.{read_fault_line}

-- the text of a file, or the line with the reason that there is none
abbrev pub read_answer : Result (List ℕ) ControlFault → List ℕ
read_answer (Ok text) = text
read_answer (Err fault) = read_fault_line fault

abbrev pub cat_text : MachineValue → (path : List ℕ) → List ℕ
cat_text m path = read_answer (file_text m.layout m.state path)

-- a file was read; or memory ran out, and the text reports that
abbrev pub WritesFile : MachineValue → (path text : List ℕ) → Type 0
WritesFile m path text = (text ≡ cat_text m path) ⊎ (text ≡ read_fault_line OutOfMemory)
