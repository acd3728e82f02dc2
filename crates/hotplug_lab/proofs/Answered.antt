-- The faults of what answers a word are the word's.
use Rattle.std.proofs.Common.{◌≡◌, ℕ, List, refl, sym, subst}
use Rattle.hp_trace.specs.declared.view.View.{View}
use Rattle.hp_lab_shell.specs.Faults.{IsUnread}
use Rattle.hp_search.specs.declared.lab_fault.LabFault.TheVariants.{OutOfMemory}
use Rattle.hp_search.specs.declared.program_fault.LabProgramFault.{LabProgramFault}
use Rattle.hp_search.specs.declared.program_fault.LabProgramFault.TheVariants.{Lab, NotOpened, Parts, PastEnd, ReadFailed, Scenario, TooLong, WriteFailed}
use Rattle.hp_lab_shell.specs.declared.words.Drawing.{Drawing}
use Rattle.hp_lab_shell.specs.declared.words.JsonForm.{JsonForm}
use Rattle.hp_lab_shell.specs.declared.words.Word.{Word}
use Rattle.hp_lab_shell.specs.declared.words.Word.TheVariants.{Check, Explore, Find, Log, Never, Part, Picture, Sum, Told, Trace}
use Rattle.hotplug_lab.specs.Words.{IsUnanswered}

-- out of memory is a fault of each word
pub no_memory : (word : Word) (input : List ℕ) → IsUnanswered word input (Lab OutOfMemory)
no_memory (Check setup) input = refl
no_memory (Explore asked form by jobs) input = tt
no_memory (Part asked part) input = (tt, tt)
no_memory (Sum form) input = refl
no_memory (Find setup wanted form jobs) input = tt
no_memory (Never setup wanted form jobs) input = tt
no_memory (Trace view) input = refl
no_memory (Picture drawing) input = refl
no_memory Log input = refl
no_memory (Told form) input = refl

-- the bytes are no scenario
unread : (view : View) (input : List ℕ) (fault : LabProgramFault) → IsUnread input fault
    → IsUnanswered (Trace view) input fault
unread view input NotOpened h = absurd h
unread view input ReadFailed h = absurd h
unread view input TooLong h = absurd h
unread view input (Lab fault) h = h
unread view input (Parts fault) h = absurd h
unread view input (Scenario fault) h = h
unread view input (PastEnd asked lines) h = absurd h
unread view input WriteFailed h = absurd h

pub not_traced : (word : Word) (view : View) (input : List ℕ) (fault : LabProgramFault) → word ≡ Trace view
    → IsUnread input fault → IsUnanswered word input fault
not_traced word view input fault is h =
    subst (λ (w : Word). IsUnanswered w input fault) (sym is) (unread view input fault h)

undrawn : (drawing : Drawing) (input : List ℕ) (fault : LabProgramFault) → IsUnread input fault
    → IsUnanswered (Picture drawing) input fault
undrawn drawing input NotOpened h = absurd h
undrawn drawing input ReadFailed h = absurd h
undrawn drawing input TooLong h = absurd h
undrawn drawing input (Lab fault) h = h
undrawn drawing input (Parts fault) h = absurd h
undrawn drawing input (Scenario fault) h = h
undrawn drawing input (PastEnd asked lines) h = absurd h
undrawn drawing input WriteFailed h = absurd h

pub not_drawn : (word : Word) (drawing : Drawing) (input : List ℕ) (fault : LabProgramFault)
    → word ≡ Picture drawing → IsUnread input fault → IsUnanswered word input fault
not_drawn word drawing input fault is h =
    subst (λ (w : Word). IsUnanswered w input fault) (sym is) (undrawn drawing input fault h)

unlogged : (input : List ℕ) (fault : LabProgramFault) → IsUnread input fault → IsUnanswered Log input fault
unlogged input NotOpened h = absurd h
unlogged input ReadFailed h = absurd h
unlogged input TooLong h = absurd h
unlogged input (Lab fault) h = h
unlogged input (Parts fault) h = absurd h
unlogged input (Scenario fault) h = h
unlogged input (PastEnd asked lines) h = absurd h
unlogged input WriteFailed h = absurd h

pub not_logged : (word : Word) (input : List ℕ) (fault : LabProgramFault) → word ≡ Log → IsUnread input fault
    → IsUnanswered word input fault
not_logged word input fault is h =
    subst (λ (w : Word). IsUnanswered w input fault) (sym is) (unlogged input fault h)

untold : (form : JsonForm) (input : List ℕ) (fault : LabProgramFault) → IsUnread input fault
    → IsUnanswered (Told form) input fault
untold form input NotOpened h = absurd h
untold form input ReadFailed h = absurd h
untold form input TooLong h = absurd h
untold form input (Lab fault) h = h
untold form input (Parts fault) h = absurd h
untold form input (Scenario fault) h = h
untold form input (PastEnd asked lines) h = absurd h
untold form input WriteFailed h = absurd h

pub not_told : (word : Word) (form : JsonForm) (input : List ℕ) (fault : LabProgramFault) → word ≡ Told form
    → IsUnread input fault → IsUnanswered word input fault
not_told word form input fault is h =
    subst (λ (w : Word). IsUnanswered w input fault) (sym is) (untold form input fault h)
