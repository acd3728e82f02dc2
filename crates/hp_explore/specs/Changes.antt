-- Changes of processor in a schedule.
use Rattle.std.specs.Prelude.{ℕ, ◌+◌, ◌==◌, if◌then◌else◌, List, [], ◌∷◌}

-- 1 if two calls in a row are by different processors, else 0
abbrev pub change : (cpu next : ℕ) → ℕ
change cpu next = if cpu == next then 0 else 1

-- the number of changes of processor in a call by `cpu` and the calls that follow it
abbrev pub changes_after : (cpu : ℕ) → List ℕ → ℕ
changes_after cpu [] = 0
changes_after cpu (next ∷ rest) = change cpu next + changes_after next rest

-- the number of changes of processor in a schedule
abbrev pub changes : List ℕ → ℕ
changes [] = 0
changes (cpu ∷ rest) = changes_after cpu rest
