use Rattle.std.proofs.Common.{refl}
use Rattle.hp_ops.proofs.Receipts.{moved_on}
use Rattle.hp_ops.proofs.stages.Driver.answer.Goals as goal

pub returns : goal.returns
returns c =
    moved_on c.args.self.now _ c.args.event.now c.args.reply.now refl c.left_after-self.ensures
    c.why_after-self.ensures c.stage_after-self.ensures.next c.stage_after-self.ensures.end
