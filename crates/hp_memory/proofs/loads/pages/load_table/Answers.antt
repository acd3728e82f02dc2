use Rattle.std.proofs.Common.{ap, arith}
use Rattle.hp_memory.proofs.Pages.{same_frames}
use Rattle.hp_memory.proofs.Tables.{copied-all}
use Rattle.hp_memory.proofs.loads.pages.load_table.Goals as goal

pub returns-clause-table : goal.returns-clause-table
returns-clause-table c =
    same_frames c.loop-number.pages.pages _
    (copied-all
    (omega (
      arith,
      c.loop-number-test.false,
      c.owners-number-end.ensures.is,
      ap (λ l. l.owners)
          c.layout.ensures,
      c.requires.placed.in_order.shape.owners,
    )) c.loop-number.invariant.table)
    c.loop-number.invariant.buffers
