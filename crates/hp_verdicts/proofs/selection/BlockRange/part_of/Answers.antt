use Rattle.hp_verdicts.proofs.Selected.{alloc_event, free_event}
use Rattle.hp_verdicts.proofs.selection.BlockRange.part_of.Goals as goal

pub returns-in-Alloc : goal.returns-in-Alloc
returns-in-Alloc c = λ formed.
    alloc_event c.args.size.now c.args.self.now c.args.event.now c.kept.result c.in-Alloc.frame
    c.in-Alloc.order c.block_of.result c.in-Alloc.movable c.in-Alloc.is c.block_of.ensures c.kept.ensures
    formed

pub returns-in-Free : goal.returns-in-Free
returns-in-Free c = λ formed.
    free_event c.args.size.now c.args.self.now c.args.event.now c.kept-in-Free.result c.in-Free.frame
    c.in-Free.order c.block_of-in-Free.result c.in-Free.is c.block_of-in-Free.ensures c.kept-in-Free.ensures
    formed
