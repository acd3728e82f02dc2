use Rattle.hp_pages.proofs.Kernel.{notes-set}
use Rattle.hp_pages.proofs.kernel_blocks.KernelBlocks.set.Goals as goal

pub returns-clause-notes : goal.returns-clause-notes
returns-clause-notes c =
    λ l in_frames. notes-set l c.args.self.now c.put_order.new.self c.args.frame c.short_at-was.result
    c.short_order-now.result c.args.tape.now c.note.new.self c.put_order.ensures c.short_at-was.ensures
    c.requires.frame in_frames c.note.ensures.room c.note.ensures.noted
