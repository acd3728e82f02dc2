-- Whether a scenario has the line that a word names.
use Rattle.std.proofs.Common.{◌≡◌, ℕ, ◌<◌, true, List, Option, Some, None, refl, subst, sym, ◌∙◌, arith, le-leb}
use Rattle.hp_scripts.specs.Named.{named_in}
use Rattle.hp_lab_shell.specs.Scripts.{count_of}
use Rattle.hp_search.specs.declared.program_fault.LabProgramFault.{LabProgramFault}
use Rattle.hp_search.specs.declared.program_fault.LabProgramFault.TheVariants.{PastEnd}
use Rattle.hp_lab_shell.specs.declared.words.Word.{Word}
use Rattle.hp_lab_shell.specs.Needs.{HasLines, IsLineFault, IsPast, has_line, last_named}

any_has : (count : Option ℕ) → has_line 0 count ≡ true
any_has None = refl
any_has (Some lines) = le-leb 0 lines (omega arith)

-- where no line is named
pub none_needed : (word : Word) (input : List ℕ) → last_named word ≡ 0 → HasLines word input
none_needed word input none = rw none (any_has (count_of (named_in input)))

pub past_is_fault : (word : Word) (input : List ℕ) (asked : ℕ) (count : Option ℕ) (fault : LabProgramFault)
    → asked ≡ last_named word → count ≡ count_of (named_in input) → IsPast asked count fault
    → IsLineFault word input fault
past_is_fault word input asked count (PastEnd number lines) named is h =
    (h.0 ∙ named, sym is ∙ h.1, subst (λ (n : ℕ). lines < n) (sym h.0) h.2)
past_is_fault word input asked count fault named is h = absurd h
