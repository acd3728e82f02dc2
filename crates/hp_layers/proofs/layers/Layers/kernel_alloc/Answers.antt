use Rattle.std.specs.Prelude.{nat_lt}
use Rattle.std.proofs.lemmas.Bool.{le-leb}
use Rattle.hp_units.specs.Choices.{unless_some}
use Rattle.hp_units.specs.KernelBlocks.{kernel_block}
use Rattle.hp_units.specs.declared.events.Event.TheVariants.{KernelAlloc}
use Rattle.hp_units.specs.declared.replies.Refusal.TheVariants.{BadOrder, NoFrame}
use Rattle.hp_layers.specs.Layers.{state_of}
use Rattle.hp_layers.proofs.Answers.{refused_none}
use Rattle.hp_layers.proofs.KernelEvents.{kernel-refused, kernel-taken, taken-low}
use Rattle.hp_tape.specs.Tapes.{HasRoom}
use Rattle.hp_layers.specs.Frames.{free_of, kernel_block_bound}
use Rattle.hp_layers.proofs.Rooms.{kernel-fits, room-free, room-less}
use Rattle.hp_layers.proofs.Placed.{tidy-placed}
use Rattle.hp_layers.proofs.Refusals.{holds-first, read-le, read-lt, refused_for}
use Rattle.std.proofs.Common.{◌≡◌, ℕ, suc, ◌+◌, [], ◌∷◌, Fits, w64, refl, sym, subst, arith}
use Rattle.hp_layers.proofs.layers.Layers.kernel_alloc.Goals as goal

pub kernel_block-requires-clause-tidy : goal.kernel_block-requires-clause-tidy
kernel_block-requires-clause-tidy c = tidy-placed c.args.self.now c.requires.placed

pub returns-in-Some-clause-ok : goal.returns-in-Some-clause-ok
returns-in-Some-clause-ok c =
    kernel-taken c.args.self.now c.kernel_block.new.self c.set.new.self c.args.cpu c.args.order
    c.in-Some.frame c.reserve.new.self c.kernel_block.new.tape c.set.new.tape c.requires.placed
    (omega (arith, c.if-order.false, c.order.ensures.is, c.order-2.view_is)) c.reserve.ensures.deltas
    c.in-Some.ensures c.set.ensures.set c.set.ensures.notes

pub returns-then-order-clause-ok : goal.returns-then-order-clause-ok
returns-then-order-clause-ok c =
    let m = c.args.self.now in
    refused_for m c.args.cpu (KernelAlloc c.args.order) c.args.tape.now.deltas BadOrder c.requires.placed
    (holds-first (nat_lt m.layout.order c.args.order) BadOrder
    (unless_some (kernel_block m.layout (state_of m).free c.args.cpu c.args.order) NoFrame ∷ [])
    (le-leb (suc m.layout.order) c.args.order
    (read-lt c.if-order.true c.order.ensures.is c.order-2.view_is)))

pub kernel_block-requires-clause-cpu : goal.kernel_block-requires-clause-cpu
kernel_block-requires-clause-cpu c = rw c.requires.placed.one.cpus c.requires.cpu

pub kernel_block-requires-clause-layout : goal.kernel_block-requires-clause-layout
kernel_block-requires-clause-layout c = rw c.requires.placed.one.cpus c.requires.placed.one.layout

pub returns-in-None-clause-ok : goal.returns-in-None-clause-ok
returns-in-None-clause-ok c =
    let m = c.args.self.now in
    refused_none m c.kernel_block.new.self (KernelAlloc c.args.order) _ c.args.tape.now.deltas
    c.reserve.new.self c.kernel_block.new.tape NoFrame c.requires.placed (c.in-None.ensures.none refl)
    c.reserve.ensures.deltas
    (kernel-refused m c.kernel_block.new.self c.args.cpu c.args.order _ c.reserve.new.self
    c.kernel_block.new.tape c.requires.placed
    (read-le c.if-order.false c.order-2.view_is c.order.ensures.is) c.in-None.ensures)

pub overflow_add-room : goal.overflow_add-room
overflow_add-room c =
    let m = c.args.self.now in
    subst (λ (n : ℕ). Fits w64 (n + 1)) (sym c.kernel_block_room-room.ensures)
    (kernel-fits m.layout (free_of m.frames) c.args.cpu c.args.order c.requires.placed.one.layout)

pub kernel_block-requires-clause-order : goal.kernel_block-requires-clause-order
kernel_block-requires-clause-order c =
    rw c.requires.placed.one.cpus (read-le c.if-order.false c.order-2.view_is c.order.ensures.is)

pub kernel_block-requires-clause-room : goal.kernel_block-requires-clause-room
kernel_block-requires-clause-room c =
    rw (c.requires.placed.one.cpus, ← c.kernel_block_room-room.ensures)
    (room-less c.reserve.new.self c.kernel_block_room-room.result 1 c.in_ok-reserve.ensures.room)

pub set-requires-clause-frame : goal.set-requires-clause-frame
set-requires-clause-frame c =
    taken-low c.args.self.now _ _ _ _ _ _ c.in-Some.frame c.requires.placed c.in-Some.ensures

pub set-requires-clause-room : goal.set-requires-clause-room
set-requires-clause-room c =
    let m = c.args.self.now in
    let bound : ℕ = kernel_block_bound m.frames.cpus.layout (free_of m.frames) c.args.cpu c.args.order in
    let is : c.kernel_block_room-room.result ≡ bound =
    rw (c.kernel_block_room-room.ensures, ← c.requires.placed.one.cpus) in
    room-free _ bound 1 c.reserve.new.self c.kernel_block.new.tape _ _ c.kernel_block.ensures.notes
    (subst (λ (n : ℕ). HasRoom c.reserve.new.self (n + 1)) is c.in_ok-reserve.ensures.room)
