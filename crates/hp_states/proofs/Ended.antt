-- The rows of the blocks so far.
use Rattle.std.proofs.Common.{◌≡◌, ℕ, ◌+◌, List, [], ◌∷◌, ◌++◌, slice_get, arith}
use Rattle.std.proofs.lemmas.List.FromFn.{map-range_with_len_more}
use Rattle.hp_units.specs.Memory.{Memory}
use Rattle.hp_units.specs.declared.rows.Row.{Row}
use Rattle.hp_schedules.specs.Outcomes.{ended_row, ended_rows_below}

-- the blocks' rows with one block more
pub rows_more : (all : List Row) (s : Memory) (row : Row) (block : ℕ) → all ≡ ended_rows_below block s
    → row ≡ ended_row (slice_get s.blocks.rows block)
    → all ++ row ∷ [] ≡ ended_rows_below (block + 1) s
rows_more all s row block so_far is =
    let more = map-range_with_len_more (λ (b : ℕ). ended_row (slice_get s.blocks.rows b)) 0 block block in
    rw (so_far, is, ← more (omega arith))
