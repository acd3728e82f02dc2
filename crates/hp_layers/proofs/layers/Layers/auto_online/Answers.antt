use Rattle.std.proofs.Common.{sym, ◌∙◌, ap}
use Rattle.hp_layers.specs.SingleBlocks.{added_zone}
use Rattle.hp_layers.proofs.Placed.{tidy-placed}
use Rattle.hp_layers.proofs.SingleBlocks.{added-offline, added-online}
use Rattle.hp_layers.proofs.layers.Layers.auto_online.Goals as goal

pub set_bare-requires-clause-tidy : goal.set_bare-requires-clause-tidy
set_bare-requires-clause-tidy c = tidy-placed c.args.self.now c.requires.placed

pub returns-in-None : goal.returns-in-None
returns-in-None c =
    added-offline c.args.self.now c.set_bare.new.self c.args.block c.args.tape.now c.set_bare.new.tape
    (ap added_zone (sym c.auto.ensures.auto) ∙ (sym c.zone_of_added-added.ensures ∙ c.in-None.is))
    c.set_bare.ensures

pub returns-in-Some : goal.returns-in-Some
returns-in-Some c =
    added-online c.args.self.now c.online_block.new.self c.in-Some.zone c.args.block c.args.tape.now
    c.online_block.new.tape
    (ap added_zone (sym c.auto.ensures.auto) ∙ (sym c.zone_of_added-added.ensures ∙ c.in-Some.is))
    c.online_block.ensures
