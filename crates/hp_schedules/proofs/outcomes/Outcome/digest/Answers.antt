-- One row more.
use Rattle.std.proofs.Common.{◌≡◌, ℕ, ◌+◌, ◌<◌, List, ap, get_or, length, take, ◌∙◌}
use Rattle.std.specs.Prelude.{fold}
use Rattle.std.proofs.lemmas.List.Sums.{fold_more}
use Rattle.hp_units.specs.declared.rows.Row.{Row}
use Rattle.hp_schedules.specs.Digests.{mixed, mixed_row, replies_digest}
use Rattle.hp_schedules.proofs.outcomes.Outcome.digest.Goals as goal

mixed_more : (start : ℕ) (rows : List Row) (i : ℕ) (row : Row) (digest next : ℕ) → i < length rows
    → row ≡ get_or rows i row → digest ≡ fold mixed_row start (take i rows) → next ≡ mixed_row digest row
    → next ≡ fold mixed_row start (take (i + 1) rows)
mixed_more start rows i row digest next within here so_far is =
    rw (is, so_far, fold_more mixed_row start rows i row within, ← here)

pub loop-row-preserved : goal.loop-row-preserved
loop-row-preserved c =
    mixed_more (replies_digest c.args.self.now.replies) c.blocks-row-items.result.now c.loop-row.row-index
    c.row-item.result c.loop-row.digest c.mixed-digest.result c.loop-row-test.true
    c.row-item.is c.loop-row.invariant
    (c.mixed-digest.ensures ∙ ap (mixed c.loop-row.digest) c.row_number.ensures)
