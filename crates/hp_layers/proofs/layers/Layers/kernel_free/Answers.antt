use Rattle.std.proofs.Common.{◌≡◌, Some, ◌<◌, [], ◌∷◌, sym, ◌∙◌}
use Rattle.std.specs.Prelude.{nat_le}
use Rattle.std.proofs.lemmas.Bool.{le-leb, lt-leb}
use Rattle.hp_units.specs.Choices.{unless_some}
use Rattle.hp_units.specs.declared.events.Event.TheVariants.{KernelFree}
use Rattle.hp_units.specs.declared.replies.Refusal.TheVariants.{NoSuchFrame, NotKernel}
use Rattle.hp_units.specs.Arithmetic.{frame_count}
use Rattle.hp_units.specs.Memory.{kernel_order}
use Rattle.hp_layers.specs.Layers.{state_of}
use Rattle.hp_layers.proofs.KernelEvents.{kernel-given}
use Rattle.hp_layers.proofs.Placed.{kernel-returns, tidy-placed}
use Rattle.hp_layers.proofs.Rooms.{room-kernel, room-less, room-turn}
use Rattle.hp_layers.proofs.Refusals.{fails-first, holds-first, lacks-first, read-le, read-lt, refused_for}
use Rattle.hp_layers.proofs.layers.Layers.kernel_free.Goals as goal
use Rattle.hp_layers.proofs.layers.Layers.kernel_free.Goals.{In-Some}

within : (c : In-Some) → c.args.frame < frame_count c.args.self.now.layout
within c = read-lt c.if-frame-frames.false c.frame.view_is c.frames.ensures.is

order_is : (c : In-Some) → kernel_order (state_of c.args.self.now) c.args.frame ≡ Some c.in-Some.order
order_is c = sym c.order_at.ensures ∙ c.in-Some.is

pub give_back-requires-clause-tidy : goal.give_back-requires-clause-tidy
give_back-requires-clause-tidy c = tidy-placed c.args.self.now c.requires.placed

pub give_back-requires-clause-block : goal.give_back-requires-clause-block
give_back-requires-clause-block c =
    let here = (goal.at.give_back-requires-clause-block c).In-Some in
    kernel-returns c.args.self.now c.args.frame c.in-Some.order c.requires.placed (order_is here)

pub returns-clause-ok : goal.returns-clause-ok
returns-clause-ok c =
    let here = (goal.at.returns-clause-ok c).In-Some in
    kernel-given c.args.self.now c.give_back.new.self c.set.new.self c.args.cpu c.args.frame c.in-Some.order
    c.zone_of-zone.result c.reserve.new.self c.set.new.tape c.give_back.new.tape
    c.requires.placed (within here) c.reserve.ensures.deltas (order_is here) c.set.ensures.set
    c.set.ensures.notes c.zone_of-zone.ensures c.give_back.ensures

pub returns-then-frame-frames-clause-ok : goal.returns-then-frame-frames-clause-ok
returns-then-frame-frames-clause-ok c =
    let m = c.args.self.now in
    refused_for m c.args.cpu (KernelFree c.args.frame) c.args.tape.now.deltas NoSuchFrame c.requires.placed
    (holds-first (nat_le (frame_count m.layout) c.args.frame) NoSuchFrame
    (unless_some (kernel_order (state_of m) c.args.frame) NotKernel ∷ [])
    (le-leb (frame_count m.layout) c.args.frame
    (read-le c.if-frame-frames.true c.frames.ensures.is c.frame.view_is)))

pub order_at-requires : goal.order_at-requires
order_at-requires c =
    rw c.requires.placed.one.kernel (read-lt c.if-frame-frames.false c.frame.view_is c.frames.ensures.is)

pub returns-in_default-clause-ok : goal.returns-in_default-clause-ok
returns-in_default-clause-ok c =
    let m = c.args.self.now in
    refused_for m c.args.cpu (KernelFree c.args.frame) c.args.tape.now.deltas NotKernel c.requires.placed
    (fails-first (nat_le (frame_count m.layout) c.args.frame) NoSuchFrame
    (unless_some (kernel_order (state_of m) c.args.frame) NotKernel ∷ [])
    (lt-leb (frame_count m.layout) c.args.frame
    (read-lt c.if-frame-frames.false c.frame.view_is c.frames.ensures.is))
    ∙ lacks-first (kernel_order (state_of m) c.args.frame) NotKernel []
    (sym c.order_at.ensures ∙ c.in_default.is))

pub zone_of-zone-requires-clause-frame : goal.zone_of-zone-requires-clause-frame
zone_of-zone-requires-clause-frame c = within (goal.at.zone_of-zone-requires-clause-frame c).In-Some

pub set-requires-clause-frame : goal.set-requires-clause-frame
set-requires-clause-frame c =
    rw c.requires.placed.one.kernel (within (goal.at.set-requires-clause-frame c).In-Some)

pub give_back_room-room-requires-clause-frame : goal.give_back_room-room-requires-clause-frame
give_back_room-room-requires-clause-frame c =
    within (goal.at.give_back_room-room-requires-clause-frame c).In-Some

pub set-requires-clause-room : goal.set-requires-clause-room
set-requires-clause-room c =
    room-less c.reserve.new.self 1 c.give_back_room-room.result
    (room-turn c.reserve.new.self c.give_back_room-room.result 1 c.in_ok-reserve.ensures.room)

pub give_back-requires-clause-room : goal.give_back-requires-clause-room
give_back-requires-clause-room c =
    rw (c.requires.placed.one.cpus, ← c.give_back_room-room.ensures.is)
    (room-kernel c.args.self.now.layout 1 c.give_back_room-room.result c.reserve.new.self c.set.new.tape _ _
    (c.set.ensures.notes c.args.self.now.layout (within (goal.at.give_back-requires-clause-room c).In-Some))
    (room-turn c.reserve.new.self c.give_back_room-room.result 1 c.in_ok-reserve.ensures.room))
