-- The lines that may not be in a script.
use Rattle.std.specs.Prelude.{◌≡◌, ℕ, ◌+◌, ◌<◌, List, Some, None, slice_get}
use Rattle.hp_scenario.specs.Unfit.{unfit}
use Rattle.hp_scenario.specs.declared.lines.Line.{Line}
use Rattle.hp_scenario.specs.declared.unfit.Unfit.{Unfit}
use Rattle.hp_scripts.specs.declared.start_fault.StartFault.{StartFault}
use Rattle.hp_scripts.specs.declared.start_fault.StartFault.TheVariants.{NotForScript, OutOfMemory}

-- every line before index `below` may be in a script
abbrev pub AreFit : (cpus : ℕ) → List Line → (below : ℕ) → Type 0
AreFit cpus lines below =
    (k : ℕ) (line : Line) → k < below → slice_get lines k ≡ Some line → unfit cpus line ≡ None

-- line number `place` may not be in a script, and the fault gives this number and the reason
abbrev pub IsLineFault : (cpus place : ℕ) → Line → StartFault → Type 0
IsLineFault cpus place line (NotForScript at why) = (at ≡ place) × (unfit cpus line ≡ Some why)
IsLineFault cpus place line OutOfMemory = ⊥

-- line number `place`, counted from 1, is the first that may not be in a script, and `why` is the
-- reason. `before` is the number of lines before `lines`
pub record IsFirstUnfit (cpus before : ℕ) (lines : List Line) (place : ℕ) (why : Unfit) : Type 0 where
  pub at : ℕ
  pub line : Line
  pub here : slice_get lines at ≡ Some line
  pub counted : place ≡ before + at + 1
  pub cause : unfit cpus line ≡ Some why
  pub first : AreFit cpus lines at

-- the fault gives the first line that may not be in a script, and the reason
abbrev pub IsUnfit : (cpus before : ℕ) → List Line → StartFault → Type 0
IsUnfit cpus before lines (NotForScript place why) = IsFirstUnfit cpus before lines place why
IsUnfit cpus before lines OutOfMemory = ⊥
