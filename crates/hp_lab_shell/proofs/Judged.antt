-- The status of a check.
use Rattle.std.proofs.Common.{◌≡◌, ◌≤◌, ◌==◌, ℕ, Bool, true, false, cond, List, Result, Ok, Err, count_by, refl, ap, ◌∙◌, arith}
use Rattle.std.proofs.lemmas.Bool.{eqb-true}
use Rattle.hp_check.specs.Checking.{Agrees}
use Rattle.hp_check.specs.Findings.{is_fault}
use Rattle.hp_check.specs.declared.finding.Finding.{Finding}
use Rattle.hp_scripts.specs.Named.{NamedValue, named_in}
use Rattle.hp_scenario.specs.declared.fault.ScenarioFault.{ScenarioFault}
use Rattle.hp_lab_shell.specs.Checks.{status_of}

some_faults : (faults : ℕ) (b : Bool) → (faults == 0) ≡ b → 1 ≤ faults → cond {A = ℕ} b 0 1 ≡ 1
some_faults faults true e some = absurd (omega (arith, some, eqb-true faults 0 e))
some_faults faults false e some = refl

judged : (r : Result NamedValue ScenarioFault) (found : List Finding) (faults : ℕ) → Agrees r found
    → faults ≡ count_by is_fault found → cond {A = ℕ} (faults == 0) 0 1 ≡ status_of r
judged (Ok s) found faults agrees are = ap (λ (n : ℕ). cond {A = ℕ} (n == 0) 0 1) (are ∙ agrees)
judged (Err fault) found faults agrees are =
    some_faults faults (faults == 0) refl (omega (arith, agrees.1, are))

-- it is 0 just where reading takes the text
pub status_is : (input : List ℕ) (found : List Finding) (faults status : ℕ) → Agrees (named_in input) found
    → faults ≡ count_by is_fault found → status ≡ cond {A = ℕ} (faults == 0) 0 1
    → status ≡ status_of (named_in input)
status_is input found faults status agrees are is = is ∙ judged (named_in input) found faults agrees are
