use Rattle.hp_trace.proofs.SnapshotsTaken.{frame_inside, held_once, holder_is}
use Rattle.hp_trace.proofs.snapshots.holder_of.Goals as goal

pub page_at-requires-clause-frame : goal.page_at-requires-clause-frame
page_at-requires-clause-frame c =
    frame_inside c.args.machine.now.layout c.args.machine.now.state c.args.frame c.pages.result.now
    c.requires.inside c.pages.ensures.value

pub page_at-requires-clause-once : goal.page_at-requires-clause-once
page_at-requires-clause-once c =
    held_once c.args.machine.now.layout c.args.machine.now.state c.args.frame c.pages.result.now
    c.requires.placed c.pages.ensures.value

pub returns : goal.returns
returns c =
    holder_is c.args.machine.now.layout c.args.machine.now.state c.args.frame c.pages.result.now c.new.result
    c.kernel_at.result c.page_at.result c.pages.ensures.value c.kernel_at.ensures c.page_at.ensures.page
    c.new.ensures
