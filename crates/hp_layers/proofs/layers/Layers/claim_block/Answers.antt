use Rattle.hp_layers.proofs.Claims.{claimed}
use Rattle.hp_layers.proofs.layers.Layers.claim_block.Goals as goal

pub returns-in_default : goal.returns-in_default
returns-in_default c =
    claimed c.args.self.now c.claim.new.self c.args.op c.args.block c.args.wish c.args.tape.now
    c.claim.new.tape c.requires.one c.requires.tidy c.in_default.not-Off c.claim.ensures.claimed
    c.claim.ensures.layout c.claim.ensures.notes
