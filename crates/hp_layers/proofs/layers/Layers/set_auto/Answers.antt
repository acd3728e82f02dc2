use Rattle.std.proofs.Common.{refl, arith}
use Rattle.hp_units.specs.declared.events.Event.TheVariants.{SetAuto}
use Rattle.hp_units.specs.declared.replies.Reply.TheVariants.{Done}
use Rattle.hp_layers.specs.Layers.{state_of}
use Rattle.hp_layers.proofs.Placed.{tidy-placed}
use Rattle.hp_layers.proofs.SingleBlocks.{asked-reworked, blocks-put}
use Rattle.hp_layers.proofs.layers.Layers.set_auto.Goals as goal

pub returns-clause-ok : goal.returns-clause-ok
returns-clause-ok c =
    let m = c.args.self.now in
    let bs = record m.blocks.blocks { auto = c.args.auto } in
    asked-reworked m (record m { blocks = c.set_auto.new.self }) (SetAuto c.args.auto) (record (state_of m)
    { blocks = bs }) Done 1 c.reserve.new.self c.set_auto.new.tape c.requires.placed refl refl
    c.reserve.ensures.deltas (omega arith)
    (blocks-put m c.set_auto.new.self bs c.reserve.new.self c.set_auto.new.tape c.requires.placed.one
    (tidy-placed m c.requires.placed) c.set_auto.ensures.set c.set_auto.ensures.layout
    c.set_auto.ensures.notes)
