-- Lists of lines, one more after another.
use Rattle.std.proofs.Common.{◌≡◌, ℕ, ◌+◌, ◌<◌, List, [], ◌∷◌, ◌++◌, length, get_or, take, Some, None, refl, slice_get, ◌∙◌, arith}
use Rattle.std.proofs.lemmas.Bool.{cases_lt}
use Rattle.std.proofs.lemmas.List.{take_more}
use Rattle.hp_machine.specs.Machine.{MachineValue}
use Rattle.hp_scenario.specs.declared.lines.Line.{Line}
use Rattle.hp_scenario.specs.Unfit.{unfit}
use Rattle.hp_scripts.specs.Checks.{AreFit, IsLineFault, IsUnfit}
use Rattle.hp_scripts.specs.declared.start_fault.StartFault.{StartFault}
use Rattle.hp_scripts.specs.declared.start_fault.StartFault.TheVariants.{NotForScript, OutOfMemory}
use Rattle.hp_scripts.specs.Runs.{RunsLine}
use Rattle.hp_scripts.specs.Setup.{RunsLines, begins_sealed}
use Rattle.hp_scripts.specs.declared.begins.Begin.{Begin}

-- one more line is run
one_more : (xs : List Line) (line : Line) (m mid new : MachineValue) (before so_far after : List Begin)
    (number : ℕ) → RunsLines m before xs mid so_far → RunsLine mid line new number
    → after ≡ so_far ++ begins_sealed mid line.work → RunsLines m before (xs ++ line ∷ []) new after
one_more [] line m mid new before so_far after number ran w is =
    (new, number, rw ran.0 at w, (refl, rw (is, ran.1, ran.0)))
one_more (x ∷ xs) line m mid new before so_far after number ran w is = (
  ran.0,
  ran.1,
  ran.2,
  one_more xs line ran.0 mid new (before ++ begins_sealed m x.work) so_far after number ran.3 w is,
)

pub lines_more : (xs : List Line) (i : ℕ) (line : Line) (m mid next : MachineValue)
    (before so_far after : List Begin) (number : ℕ)
    → i < length xs → RunsLines m before (take i xs) mid so_far → line ≡ get_or xs i line
    → after ≡ so_far ++ begins_sealed mid line.work → RunsLine mid line next number
    → RunsLines m before (take (i + 1) xs) next after
lines_more xs i line m mid next before so_far after number lt ran is_at sealed one =
    rw (take_more xs i line lt, ← is_at)
    (one_more (take i xs) line m mid next before so_far after number ran one sealed)

-- one more line can stand in a script
pub fit_more : (cpus : ℕ) (lines : List Line) (i : ℕ) (line : Line)
    → AreFit cpus lines i → slice_get lines i ≡ Some line → unfit cpus line ≡ None → AreFit cpus lines (i + 1)
fit_more cpus lines i line so_far here fits k other lt at = grind (arith, cases_lt k i, so_far k other)

-- or this one is the first that cannot
pub first_unfit : (cpus before : ℕ) (lines : List Line) (i place : ℕ) (line : Line) (fault : StartFault)
    → place ≡ before + i + 1 → slice_get lines i ≡ Some line → AreFit cpus lines i
    → IsLineFault cpus place line fault → IsUnfit cpus before lines fault
first_unfit cpus before lines i place line (NotForScript at why) is here fit h = record {
  at = i;
  line = line;
  here = here;
  counted = h.0 ∙ is;
  cause = h.1;
  first = fit;
}
first_unfit cpus before lines i place line OutOfMemory is here fit h = absurd h
