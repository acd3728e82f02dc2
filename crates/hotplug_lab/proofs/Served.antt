-- From the parts to the whole: what was read, what was made of it, and what was written.
use Rattle.std.proofs.Common.{◌≡◌, inl, inr, ℕ, List, Option, refl, subst}
use Rattle.std.specs.Io.KnownBytes.{Consumes, IsAtEnd}
use Rattle.hp_streams.specs.Reading.{IsReadFault}
use Rattle.hp_streams.specs.declared.reading.ReadFault.{ReadFault}
use Rattle.hp_streams.specs.declared.reading.ReadFault.TheVariants as reading
use Rattle.hp_streams.proofs.Whole.{given}
use Rattle.hp_search.specs.FaultOrigins.{read_fault_from}
use Rattle.hp_lab_shell.specs.Needs.{IsPastEnd}
use Rattle.hotplug_lab.specs.Words.{IsLabCause, IsPartCause, IsScenarioCause, IsServeFault, IsTextFault}
use Rattle.hp_search.specs.declared.program_fault.LabProgramFault.{LabProgramFault}
use Rattle.hp_search.specs.declared.program_fault.LabProgramFault.TheVariants.{Lab, NotOpened, Parts, PastEnd, ReadFailed, Scenario, TooLong, WriteFailed}
use Rattle.hp_lab_shell.specs.declared.words.Word.{Word}

-- a fault of reading is one of the program
pub read_fault : (word : Word) (known : Option (List ℕ)) (read written : Type 0) (fault : ReadFault)
    → IsReadFault known read fault → IsServeFault word known read written (read_fault_from fault)
read_fault word known read written reading.ReadFailed h = h
read_fault word known read written reading.TooLong h = h
read_fault word known read written reading.OutOfMemory h = inl refl

-- a fault of a word on all that was read is one of the program
text_fault_of : (word : Word) (a b : Option (List ℕ)) (input : List ℕ) (read written : Type 0)
    (fault : LabProgramFault)
    → Consumes a b input → IsAtEnd b → IsTextFault word input written fault
    → IsServeFault word a read written fault
text_fault_of word a b input read written NotOpened p end h = absurd h
text_fault_of word a b input read written ReadFailed p end h = absurd h
text_fault_of word a b input read written TooLong p end h = absurd h
text_fault_of word a b input read written (Lab fault) p end (inl h) = inl h
text_fault_of word a b input read written (Lab fault) p end (inr h) =
    inr (given a b input p end (λ i. IsLabCause word i fault) h)
text_fault_of word a b input read written (Parts fault) p end h =
    given a b input p end (λ i. IsPartCause word i fault) h
text_fault_of word a b input read written (Scenario fault) p end h =
    given a b input p end (λ i. IsScenarioCause word i fault) h
text_fault_of word a b input read written (PastEnd asked lines) p end h =
    given a b input p end (λ i. IsPastEnd word i asked lines) h
text_fault_of word a b input read written WriteFailed p end h = h

-- `seen` is the slice that was passed on
pub text_fault : (word : Word) (a b : Option (List ℕ)) (input seen : List ℕ) (read written : Type 0)
    (fault : LabProgramFault)
    → seen ≡ input → Consumes a b input → IsAtEnd b → IsTextFault word seen written fault
    → IsServeFault word a read written fault
text_fault word a b input seen read written fault same p end h =
    text_fault_of word a b input read written fault p end
    (subst (λ (i : List ℕ). IsTextFault word i written fault) same h)
