use Rattle.std.proofs.Common.{[], not, sym, ◌∙◌, ap, arith}
use Rattle.hp_units.specs.Rows.{is_live}
use Rattle.hp_units.specs.declared.events.Event.TheVariants.{Cancel}
use Rattle.hp_units.specs.declared.replies.Refusal.TheVariants.{NoOp}
use Rattle.hp_layers.proofs.Placed.{tidy-placed}
use Rattle.hp_layers.proofs.Refusals.{holds-first, refused_for}
use Rattle.hp_layers.proofs.Releases.{cancel-done}
use Rattle.hp_layers.proofs.Rooms.{moved-fits}
use Rattle.hp_layers.proofs.layers.Layers.cancel.Goals as goal

pub release_blocks-requires-clause-tidy : goal.release_blocks-requires-clause-tidy
release_blocks-requires-clause-tidy c = tidy-placed c.args.self.now c.requires.placed

pub returns-clause-ok : goal.returns-clause-ok
returns-clause-ok c =
    cancel-done c.args.self.now c.release_blocks.new.self c.args.op c.deref.result.now c.reserve.new.self
    c.release_blocks.new.tape c.requires.placed c.reserve.ensures.deltas
    (sym c.is_live.ensures ∙ c.if-not-is_live.false) (c.deref.ensures.value ∙ c.in_ok-blocks.ensures.blocks)
    c.release_blocks.ensures

pub returns-then-not-is_live-clause-ok : goal.returns-then-not-is_live-clause-ok
returns-then-not-is_live-clause-ok c =
    refused_for c.args.self.now 0 (Cancel c.args.op) c.args.tape.now.deltas NoOp c.requires.placed
    (holds-first (not (is_live c.args.self.now.blocks.blocks c.args.op)) NoOp []
    (ap not (sym c.is_live.ensures ∙ c.if-not-is_live.true)))

pub overflow_mul-len : goal.overflow_mul-len
overflow_mul-len c =
    moved-fits c.args.self.now.layout c.len.result c.moved_block_room-each.result c.requires.placed.one.layout
    (omega (arith, c.len.ensures, c.in_ok-blocks.blocks.ok, c.in_ok-blocks.ensures.few))
    c.moved_block_room-each.ensures.is

pub release_blocks-requires-clause-within : goal.release_blocks-requires-clause-within
release_blocks-requires-clause-within c = rw c.deref.ensures.value c.in_ok-blocks.ensures.within

pub release_blocks-requires-clause-room : goal.release_blocks-requires-clause-room
release_blocks-requires-clause-room c =
    rw (c.deref.ensures.len, ← c.len.ensures, ← c.moved_block_room-each.ensures.is)
    c.in_ok-reserve.ensures.room
