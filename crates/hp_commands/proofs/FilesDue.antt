-- A line that reads a control file: when its text is the one that is due.
use Rattle.std.proofs.Common.{◌≡◌, ℕ, List, ◌++◌, codes, refl, inl, inr}
use Rattle.hp_machine.specs.Machine.{MachineValue}
use Rattle.hp_requests.specs.declared.fault.ControlFault.TheVariants.{OutOfMemory}
use Rattle.hp_commands.specs.Files.{WritesFile, cat_text}
use Rattle.hp_text.specs.FileFaults.{read_fault_line}
use Rattle.hp_commands.specs.Serial.{IsWhole}
use Rattle.hp_commands.proofs.Whole.{not_whole}

-- in a whole text a file was read: a text that says out of memory isn't whole
pub cat_due : (m : MachineValue) (path text rest : List ℕ) → WritesFile m path text → IsWhole (text ++ rest)
    → text ≡ cat_text m path
cat_due m path text rest (inl w) whole = w
cat_due m path text rest (inr w) whole =
    absurd (not_whole (read_fault_line OutOfMemory ++ rest) (codes "cat: fault ") rest refl (rw w at whole))
