use Rattle.hp_layers.proofs.Claims.{isolated}
use Rattle.hp_layers.proofs.layers.Layers.isolate_block.Goals as goal

pub returns : goal.returns
returns c =
    isolated c.args.self.now c.move_block.new.self c.claim.new.self c.args.op c.args.block
    c.zone_of_block-zone.result c.args.tape.now c.move_block.new.tape c.claim.new.tape c.requires.one
    c.zone_of_block-zone.ensures c.move_block.ensures c.claim.ensures.claimed c.claim.ensures.layout
    c.claim.ensures.notes
