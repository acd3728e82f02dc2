use Rattle.std.proofs.Common.{ℕ, ◌*◌, ◌<◌, ◌^◌, subst}
use Rattle.hp_verdicts.proofs.Sizes.{no_size}
use Rattle.hp_verdicts.proofs.options.machine_size.Goals as goal

pub returns-in-None-clause-none : goal.returns-in-None-clause-none
returns-in-None-clause-none c =
    no_size c.args.block_frames c.args.range c.in_ok-order.order c.most_blocks-blocks.result
    c.in_ok-order.ensures.some.1 c.most_blocks-blocks.ensures
    (subst (λ (n : ℕ). c.most_blocks-blocks.result * n < 2 ^ 32 → ⊥) c.piece_size.ensures c.in-None.ensures)
