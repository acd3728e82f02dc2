-- From the parts to the whole: what was read, what was made of it, and what was written.
use Rattle.std.proofs.Common.{◌≡◌, ℕ, List, [], ◌++◌, ◌<◌, length, OnOk, Option, Some, Result, Ok, Err, refl}
use Rattle.std.specs.Prelude.{◌⊎◌}
use Rattle.std.specs.Io.KnownBytes.{Consumes, IsAtEnd}
use Rattle.hp_machine.specs.Machine.{MachineValue, booted}
use Rattle.hp_plain.specs.Image.{Pictured}
use Rattle.hp_scenario.specs.declared.lines.Line.{Line}
use Rattle.hp_scenario.specs.declared.fault.ScenarioFault.{ScenarioFault}
use Rattle.hp_scenario.specs.declared.fault.ScenarioFault.TheVariants as scenario
use Rattle.hp_scenario.specs.Gives.{Fails}
use Rattle.hp_scenario.specs.Scenario.{ScenarioValue, scenario_in}
use Rattle.hp_streams.specs.Reading.{IsReadFault, limit}
use Rattle.hp_streams.proofs.Whole.{given}
use Rattle.hp_streams.specs.declared.reading.ReadFault.{ReadFault}
use Rattle.hp_streams.specs.declared.reading.ReadFault.TheVariants as reading
use Rattle.hp_text.specs.State.{state_text}
use Rattle.hp_commands.specs.Serial.{GrowsBy, LeavesImage, WritesLines, end_text, scenario_text, serial_text}
use Rattle.hp_commands.proofs.Lines.{AreDue, lines_due, run_is}
use Rattle.hp_commands.specs.Served.{IsTextOf}
use Rattle.hp_commands.specs.Faults.{IsAudit, IsFaultOf, IsRefuted, IsUnfinished, fault_from, read_fault_from}
use Rattle.hp_commands.specs.Runs.{SealsSome, scripts_in}
use Rattle.hp_commands.specs.declared.fault.ProgramFault.{ProgramFault}
use Rattle.hp_commands.specs.declared.fault.ProgramFault.TheVariants.{TooLong, NotJson, BadShape, Layout, BadLine, NotForRun, OutOfMemory, NotStarted, Mismatch, AuditDiffers, BrokenChain}
use Rattle.hp_commands.specs.declared.commands.Command.{Command}
use Rattle.hp_commands.proofs.Unfit.{never_not_for_run}

-- a fault of reading is one of the program
pub read_fault : (command : Command) (known : Option (List ℕ)) (read written : Type 0) (fault : ReadFault)
    → IsReadFault known read fault → IsFaultOf command known read written (read_fault_from fault)
read_fault command known read written reading.OutOfMemory h = tt
read_fault command known read written _ h = h

-- a fault of the scenario is one of any command
pub scenario_fault : (command : Command) (input : List ℕ) (fault : ScenarioFault)
    → Fails fault (scenario_in input) → IsFaultOf command (Some input) ⊥ ⊥ (fault_from fault)
scenario_fault command input (scenario.NotForRun n) h = absurd (never_not_for_run input n h)
scenario_fault command input scenario.OutOfMemory h = tt
scenario_fault command input _ h = h

-- a fault of the input that was read is one of what the reader had
pub fault_of_read : (command : Command) (a b : Option (List ℕ)) (input : List ℕ) (read written : Type 0)
    (fault : ProgramFault)
    → Consumes a b input → IsAtEnd b → IsFaultOf command (Some input) ⊥ ⊥ fault
    → IsFaultOf command a read written fault
fault_of_read command a b input read written TooLong p end h =
    given a b input p end (λ i. limit < length i) h
fault_of_read command a b input read written NotJson p end h =
    given a b input p end (λ i. scenario_in i ≡ Err scenario.NotJson) h
fault_of_read command a b input read written BadShape p end h =
    given a b input p end (λ i. scenario_in i ≡ Err scenario.BadShape) h
fault_of_read command a b input read written (Layout f) p end h =
    given a b input p end (λ i. scenario_in i ≡ Err (scenario.Layout f)) h
fault_of_read command a b input read written (BadLine n) p end h =
    given a b input p end (λ i. scenario_in i ≡ Err (scenario.BadLine n)) h
fault_of_read command a b input read written (NotForRun n) p end h =
    (h.0, given a b input p end (λ i. scripts_in i ≡ Err (scenario.NotForRun n)) h.1)
fault_of_read command a b input read written OutOfMemory p end h = tt
fault_of_read command a b input read written (NotStarted c) p end h =
    (h.0, given a b input p end (λ i. IsUnfinished i (NotStarted c)) h.1)
fault_of_read command a b input read written (Mismatch n) p end h =
    (h.0, given a b input p end (λ i. IsUnfinished i (Mismatch n)) h.1)
fault_of_read command a b input read written AuditDiffers p end h =
    (h.0, given a b input p end (λ i. SealsSome i × IsRefuted i AuditDiffers) h.1)
fault_of_read command a b input read written (BrokenChain n) p end h = (
  h.0,
  given a b input p end
      (λ i. SealsSome i
      × (IsUnfinished i (BrokenChain n) ⊎ (IsAudit command × IsRefuted i (BrokenChain n)))) h.1,
)
fault_of_read command a b input read written _ p end h = absurd h

-- the lines' text and the state's, where they are due
due_is : (s : ScenarioValue) (m : MachineValue) (lines text : List ℕ)
    → AreDue (booted s.layout) s.lines lines m → text ≡ lines ++ end_text s.names m → text ≡ scenario_text s
unfolding scenario_text
due_is s m lines text due e = rw (e, due.0, due.1)

-- the text of a scenario is that of its bytes
whole_is : (input : List ℕ) (s : ScenarioValue) (text : List ℕ) → scenario_in input ≡ Ok s
    → text ≡ scenario_text s → serial_text input ≡ Ok text
unfolding serial_text
whole_is input s text read e = rw (read, e)

-- a run of the lines, and the state after it
text_of : (input : List ℕ) (s : ScenarioValue) (m : MachineValue) (lines text : List ℕ)
    → scenario_in input ≡ Ok s → WritesLines (booted s.layout) s.lines lines m
    → text ≡ lines ++ end_text s.names m → IsTextOf input text
text_of input s m lines text read ran e = record {
  scenario = s;
  read = read;
  lines = lines;
  machine = m;
  run = ran;
  end = e;
  whole =
      λ whole. whole_is input s text read (due_is s m lines text
      (lines_due s.lines (booted s.layout) m lines (end_text s.names m) ran (rw e at whole)) e);
}

-- from the parts of the program's run: the machine at its start, its lines, and the state's text after them
pub ran_text : (input : List ℕ) (s : ScenarioValue) (first m : MachineValue) (xs : List Line)
    (image : Pictured) (old out text : List ℕ)
    → scenario_in input ≡ Ok s → first ≡ booted s.layout → xs ≡ s.lines → old ≡ []
    → GrowsBy old out (λ (lines : List ℕ). WritesLines first xs lines m)
    → image ≡ record { layout = m.layout; memory = m.state }
    → text ≡ out ++ state_text image.layout s.names image.memory → IsTextOf input text
ran_text input s first m xs image old out text read start same none ran pictured e =
    let run = rw (start, same) at ran.is in
    let grown : out ≡ ran.text = rw none at ran.grown in
    text_of input s m ran.text text read run
    (rw (e, pictured, grown, run_is s.layout s.lines ran.text m run))

-- the same by the image that the lines leave
pub image_text : (input : List ℕ) (s : ScenarioValue) (image : Pictured) (old out text : List ℕ)
    → scenario_in input ≡ Ok s → old ≡ []
    → GrowsBy old out (λ (lines : List ℕ). LeavesImage (booted s.layout) s.lines lines image)
    → text ≡ out ++ state_text image.layout s.names image.memory → IsTextOf input text
image_text input s image old out text read none ran e =
    ran_text input s (booted s.layout) ran.is.0 s.lines image old out text read refl refl none
    (record { text = ran.text; grown = ran.grown; is = ran.is.1 }) ran.is.2 e

-- the same where the state's text may not be written
pub image_text_on : {A E : Type 0} (s : ScenarioValue) (image : Pictured) (r : Result A E)
    (old out text : List ℕ)
    → GrowsBy old out (λ (lines : List ℕ). LeavesImage (booted s.layout) s.lines lines image)
    → OnOk r (text ≡ out ++ state_text image.layout s.names image.memory)
    → OnOk r (old ≡ [] → (input : List ℕ) → scenario_in input ≡ Ok s → IsTextOf input text)
image_text_on s image (Ok x) old out text ran e =
    λ none input read. image_text input s image old out text read none ran e
image_text_on s image (Err x) old out text ran e = tt
