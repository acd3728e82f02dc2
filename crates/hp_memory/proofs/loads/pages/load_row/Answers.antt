use Rattle.std.proofs.Common.{[], get_or, ◌∙◌, ap, arith}
use Rattle.hp_memory.proofs.Pages.{IsFurther, entry-more, image-row, row-all, same_frames}
use Rattle.hp_memory.proofs.loads.pages.load_row.Goals.{In-loop-number}
use Rattle.hp_memory.proofs.loads.pages.load_row.Goals as goal

further : (c : In-loop-number)
    → IsFurther c.args.pages.now.pages.table c.loop-number.pages.pages.table c.args.owner c.loop-number.number
    (get_or c.args.image.now.memory.pages.table c.args.owner [])
further c = record { row = c.loop-number.invariant.row; table = c.loop-number.invariant.table }

pub loop-number-preserved : goal.loop-number-preserved
loop-number-preserved c =
    let wanted = get_or c.args.image.now.memory.pages.table c.args.owner [] in
    let size = image-row c.args.owner c.requires.placed c.requires.owner in
    let next =
    entry-more c.args.pages.now.pages.table c.loop-number.pages.pages.table
    c.args.owner c.loop-number.number wanted c.requires.size
    (omega (
      arith,
      c.loop-number-test.true,
      c.pages-number-end.ensures.is,
      ap (λ l. l.pages) c.layout.ensures,
      size,
    )) (further (goal.at.loop-number-preserved c).In-loop-number)
    (ap (λ v. v.table) c.load_entry.ensures.entry) in
    record {
      row = next.row;
      table = next.table;
      buffers = ap (λ v. v.buffers) c.load_entry.ensures.entry ∙ c.loop-number.invariant.buffers;
      layout = c.load_entry.ensures.layout ∙ c.loop-number.invariant.layout;
    }

pub returns-clause-row : goal.returns-clause-row
returns-clause-row c =
    let wanted = get_or c.args.image.now.memory.pages.table c.args.owner [] in
    let size = image-row c.args.owner c.requires.placed c.requires.owner in
    same_frames c.loop-number.pages.pages _
    (row-all c.args.pages.now.pages.table c.loop-number.pages.pages.table c.args.owner c.loop-number.number
    wanted
    (omega (
      arith,
      c.loop-number-test.false,
      c.pages-number-end.ensures.is,
      ap (λ l. l.pages) c.layout.ensures,
      size,
    )) (record { row = c.loop-number.invariant.row; table = c.loop-number.invariant.table }))
    c.loop-number.invariant.buffers
