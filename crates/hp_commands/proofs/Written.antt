-- What the functions that write a line did, said as their contracts say it.
use Rattle.std.proofs.Common.{◌≡◌, ℕ, List, [], ◌++◌, Some, None, Result, Ok, Err, refl, sym, ap, inl, inr}
use Rattle.std.specs.Prelude.{OnOk, if◌then◌else◌, is_ok}
use Rattle.hp_units.specs.declared.plans.Item.{Item}
use Rattle.hp_units.specs.declared.replies.CallFault.{CallFault}
use Rattle.hp_units.specs.declared.replies.OpEnd.TheVariants.{Left}
use Rattle.hp_memory.specs.Memory.{MemoryValue}
use Rattle.hp_machine.specs.Machine.{MachineValue}
use Rattle.hp_machine.specs.MachinePorts.{HasCause, IsPlanRun}
use Rattle.hp_requests.specs.declared.fault.ControlFault.{ControlFault}
use Rattle.hp_requests.specs.declared.fault.ControlFault.TheVariants.{OutOfMemory}
use Rattle.hp_requests.specs.Gives.{Fails}
use Rattle.hp_text.specs.ControlFiles.{file_text}
use Rattle.hp_commands.specs.Files.{WritesFile, read_answer}
use Rattle.hp_text.specs.FileFaults.{read_fault_line}
use Rattle.hp_commands.specs.Serial.{GrowsBy}

-- ---- a plan

-- no call was made, and the fault has its cause
pub left_unasked : (m : MachineValue) (cpu turns : ℕ) (plan : List Item) (fault : CallFault)
    → HasCause (Some fault) m → IsPlanRun m cpu turns plan (Left None fault) m
left_unasked m cpu turns plan fault cause =
    record {
      receipts = [];
      fault = Some fault;
      calls = refl;
      cause = cause;
      run = record { events = tt; ends = refl };
    }

-- ---- a file read

-- what a push wrote, where there was room
pub pushed : {T E : Type 0} (r : Result T E) (old new piece text : List ℕ)
    → new ≡ (if is_ok r then old ++ piece else old) → piece ≡ text → OnOk r (new ≡ old ++ text)
pushed (Ok u) old new piece text e same = rw (e, same)
pushed (Err fault) old new piece text e same = tt

-- the machine's memory, of which a text is read
abbrev pub IsMemoryOf : MemoryValue → MachineValue → Type 0
IsMemoryOf memory m = memory ≡ record { layout = m.layout; state = m.state }

pub file_written : (memory : MemoryValue) (m : MachineValue) (path text old out : List ℕ)
    → IsMemoryOf memory m → file_text memory.layout memory.state path ≡ Ok text
    → out ≡ old ++ text → GrowsBy old out (λ (t : List ℕ). WritesFile m path t)
file_written memory m path text old out is read grown =
    record { text = text; grown = grown; is = inl (sym (ap read_answer (rw is at read))) }

read_refused : (m : MachineValue) (path : List ℕ) (fault : ControlFault)
    → Fails fault (file_text m.layout m.state path) → WritesFile m path (read_fault_line fault)
read_refused m path OutOfMemory h = inr refl
read_refused m path _ h = inl (sym (ap read_answer h))

pub file_fault_written : (memory : MemoryValue) (m : MachineValue) (path : List ℕ) (fault : ControlFault)
    (old out : List ℕ)
    → IsMemoryOf memory m → Fails fault (file_text memory.layout memory.state path)
    → out ≡ old ++ read_fault_line fault → GrowsBy old out (λ (t : List ℕ). WritesFile m path t)
file_fault_written memory m path fault old out is refused grown =
    record { text = read_fault_line fault; grown = grown; is = read_refused m path fault (rw is at refused) }
