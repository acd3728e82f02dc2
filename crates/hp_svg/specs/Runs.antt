-- Runs: cells side by side with the same character.
use Rattle.std.specs.Prelude.{ℕ, ◌≡◌, ◌+◌, ◌<◌, List, [], ◌∷◌, drop, replicate, take}
use Rattle.hp_svg.specs.declared.runs.Run.{Run}

-- the runs cover these cells, the first of which has index `at`. They cover each cell once, and a
-- run has the character of its cells
abbrev pub Covers : (at : ℕ) → List Run → (cells : List ℕ) → Type 0
Covers at [] cells = cells ≡ []
Covers at (run ∷ runs) cells =
    (run.at ≡ at) × (0 < run.count) × (take run.count cells ≡ replicate run.count run.mark)
    × Covers (at + run.count) runs (drop run.count cells)
