use Rattle.std.proofs.Common.{refl, sym, ◌∙◌, arith}
use Rattle.hp_units.specs.Memory.{offline_row}
use Rattle.hp_units.specs.Rows.{with_block_row}
use Rattle.hp_units.specs.declared.events.Event.TheVariants.{Remove}
use Rattle.hp_units.specs.declared.replies.Reply.TheVariants.{Done}
use Rattle.hp_units.specs.declared.rows.State.TheVariants.{Absent}
use Rattle.hp_layers.specs.Layers.{state_of}
use Rattle.hp_layers.proofs.Placed.{tidy-placed}
use Rattle.hp_layers.proofs.SingleBlocks.{asked-refused, asked-reworked, offline-low}
use Rattle.hp_layers.proofs.layers.Layers.remove.Goals as goal

pub returns-in-Some-clause-ok : goal.returns-in-Some-clause-ok
returns-in-Some-clause-ok c =
    asked-refused c.args.self.now (Remove c.args.block) c.args.tape.now.deltas c.in-Some.refusal
    c.requires.placed (sym c.in-Some.is ∙ c.offline_refusal.ensures)

pub set_bare-requires-clause-tidy : goal.set_bare-requires-clause-tidy
set_bare-requires-clause-tidy c = tidy-placed c.args.self.now c.requires.placed

pub set_bare-requires-clause-block : goal.set_bare-requires-clause-block
set_bare-requires-clause-block c =
    offline-low c.args.self.now.layout (state_of c.args.self.now) c.args.block
    (sym c.in_default.is ∙ c.offline_refusal.ensures)

pub returns-clause-ok : goal.returns-clause-ok
returns-clause-ok c =
    let m = c.args.self.now in
    asked-reworked m c.set_bare.new.self (Remove c.args.block) (with_block_row (state_of m) c.args.block
    (record offline_row { state = Absent })) Done 1 c.reserve.new.self
    c.set_bare.new.tape c.requires.placed (sym c.in_default.is ∙ c.offline_refusal.ensures) refl
    c.reserve.ensures.deltas (omega arith) c.set_bare.ensures
