-- The room that calls leave on a tape.
use Rattle.std.proofs.Common.{◌≡◌, ℕ, zero, suc, ◌+◌, ◌*◌, ◌^◌, ◌<◌, ◌≤◌, List, [], ◌∷◌, Option, Fits, w64, arith}
use Rattle.std.proofs.Math.Nat.{mul-le-mul, mul-le-mul_right, suc-mul}
use Rattle.std.proofs.Math.Pow.{pow_mono}
use Rattle.std.proofs.lemmas.List.{length-append}
use Rattle.hp_units.specs.LayoutParts.{LayoutParts, IsLayout}
use Rattle.hp_units.specs.Memory.{FreeFrames, cached_list}
use Rattle.hp_units.specs.declared.rows.Pool.TheVariants.{Nu as NuPool, Mm as MmPool}
use Rattle.hp_tape.specs.Bounds.{moved_block_bound, take_one_from}
use Rattle.hp_tape.specs.Deltas.{FrameView, PageFrames}
use Rattle.hp_tape.specs.Tapes.{HasRoom, NotesFree, NotesPages, TapeValue}
use Rattle.hp_layers.specs.Frames.{kernel_block_bound, page_frame_bound}
use Rattle.hp_pages.specs.Kernel.{NotesKernel}
use Rattle.hp_layers.specs.Layers.{NotesView}

-- room for less
pub room-less : (t : TapeValue) (some more : ℕ) → HasRoom t (some + more) → HasRoom t some
room-less t some more room = omega (arith, room)

-- room for two parts, in the other order
pub room-turn : (t : TapeValue) (some more : ℕ) → HasRoom t (some + more) → HasRoom t (more + some)
room-turn t some more room = omega (arith, room)

-- after a call on the free frames
pub room-free : (l : LayoutParts) (most more : ℕ) (was now : TapeValue) (later earlier : FreeFrames)
    → NotesFree l most was now later earlier → HasRoom was (most + more) → HasRoom now more
room-free l most more was now later earlier n room =
    rw n.tape (omega (arith, length-append was.deltas n.deltas, n.few, room))

-- after a call on the pages
pub room-pages : (l : LayoutParts) (most more : ℕ) (was now : TapeValue) (later earlier : PageFrames)
    → NotesPages l most was now later earlier → HasRoom was (most + more) → HasRoom now more
room-pages l most more was now later earlier n room =
    rw n.tape (omega (arith, length-append was.deltas n.deltas, n.few, room))

-- after a call on the kernel's blocks
pub room-kernel : (l : LayoutParts) (most more : ℕ) (was now : TapeValue) (later earlier : List (Option ℕ))
    → NotesKernel l most was now later earlier → HasRoom was (most + more) → HasRoom now more
room-kernel l most more was now later earlier n room =
    rw n.tape (omega (arith, length-append was.deltas n.deltas, n.few, room))

-- the room for a frame of a processor's list, plus one, fits into 64 bits
list-fits : (l : LayoutParts) (xs : List ℕ) → IsLayout l → Fits w64 (take_one_from l xs + 1)
list-fits l [] layout =
    let most : l.batch * (l.order + 2) ≤ 1024 * 12 =
    mul-le-mul {n₁ = l.batch} {m₁ = l.order + 2} {n₂ = 1024} {m₂ = 12}
    (omega (arith, layout.batch, layout.high)) (omega (arith, layout.order)) in
    omega (arith, most, layout.order)
list-fits l (x ∷ xs) layout = omega arith

-- and so does the room for a page's frame
pub page-fits : (l : LayoutParts) (fs : FreeFrames) (cpu : ℕ) → IsLayout l
    → Fits w64 (page_frame_bound l fs cpu + 1)
page-fits l fs cpu layout = list-fits l (cached_list fs cpu MmPool) layout

-- and the room for a kernel block
pub kernel-fits : (l : LayoutParts) (fs : FreeFrames) (cpu order : ℕ) → IsLayout l
    → Fits w64 (kernel_block_bound l fs cpu order + 1)
kernel-fits l fs cpu zero layout = list-fits l (cached_list fs cpu NuPool) layout
kernel-fits l fs cpu (suc order) layout = omega (arith, layout.order)

-- after calls on all layers
pub room-view : (l : LayoutParts) (most more : ℕ) (was now : TapeValue) (later earlier : FrameView)
    → NotesView l most was now later earlier → HasRoom was (most + more) → HasRoom now more
room-view l most more was now later earlier n room =
    rw n.tape (omega (arith, length-append was.deltas n.deltas, n.few, room))

-- room for all of several calls is room for those that are done and one more
pub room-each : (t : TapeValue) (done all each : ℕ) → done < all → HasRoom t (all * each)
    → HasRoom t (done * each + each)
room-each t done all each low room =
    omega (arith, mul-le-mul_right each low, suc-mul done each, room)

-- room for isolating or releasing all memory blocks fits
pub moved-fits : (l : LayoutParts) (count each : ℕ) → IsLayout l → count ≤ 256 → each ≡ moved_block_bound l
    → Fits w64 (count * each)
moved-fits l count each layout few is =
    let frames : 2 ^ l.order ≤ 2 ^ 10 = pow_mono layout.order in
    let some : l.pageblocks * (1 + 2 * 2 ^ l.order) ≤ 64 * 2049 =
    mul-le-mul {n₁ = l.pageblocks} {m₁ = 1 + 2 * 2 ^ l.order} {n₂ = 64} {m₂ = 2049}
    (omega (arith, pow_mono layout.pageblocks.1, layout.pageblocks.2)) (omega (arith, frames)) in
    let most : count * each ≤ 256 * 131137 =
    mul-le-mul {n₁ = count} {m₁ = each} {n₂ = 256} {m₂ = 131137} few (omega (arith, is, some)) in
    omega (arith, most)
