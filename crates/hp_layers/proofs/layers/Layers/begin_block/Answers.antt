use Rattle.std.proofs.Common.{◌*◌, ◌≡◌, arith}
use Rattle.hp_tape.specs.Bounds.{moved_block_bound}
use Rattle.hp_layers.proofs.layers.Layers.begin_block.Goals as goal

pub returns-in-Some : goal.returns-in-Some
returns-in-Some c =
    let bound = moved_block_bound c.args.self.now.layout in
    let one : bound ≡ 1 * bound = omega arith in
    rw (← c.wish_of.ensures, c.in-Some.is, ← one) c.claim_block.ensures
