use Rattle.std.proofs.Common.{ap, arith}
use Rattle.hp_units.specs.declared.rows.Row.{Row}
use Rattle.hp_memory.proofs.Tables.{copied-all, same_blocks}
use Rattle.hp_memory.proofs.loads.rows.load_rows.Goals as goal

pub load_row-requires-clause-none : goal.load_row-requires-clause-none
load_row-requires-clause-none c =
    ap (λ (r : Row). r.claim) (c.loop-number.invariant.rows.later c.loop-number.number (omega arith) (omega (
      arith,
      c.loop-number-test.true,
      c.blocks-number-end.ensures.is,
      ap (λ l. l.blocks) c.layout.ensures,
      c.requires.rows.rows,
    )))

pub returns-clause-rows : goal.returns-clause-rows
returns-clause-rows c =
    same_blocks c.loop-number.blocks.blocks
    (record c.args.blocks.now.blocks { rows = c.args.image.now.memory.blocks.rows })
    (copied-all
    (omega (
      arith,
      c.loop-number-test.false,
      c.blocks-number-end.ensures.is,
      ap (λ l. l.blocks) c.layout.ensures,
      c.requires.rows.rows,
    )) c.loop-number.invariant.rows)
    c.loop-number.invariant.auto
