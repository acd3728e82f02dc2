-- The events of the kernel's blocks.
use Rattle.std.proofs.Common.{◌≡◌, ℕ, zero, suc, ◌+◌, ◌*◌, ◌<◌, ◌≤◌, List, [], ◌∷◌, length, set, Option, Some, None, refl, ◌∙◌, ap, subst, arith}
use Rattle.std.proofs.lemmas.Bool.{le-ltb, lt-leb}
use Rattle.std.proofs.lemmas.List.{length-set}
use Rattle.std.proofs.lemmas.Nat.{pow_pos}
use Rattle.hp_units.specs.LayoutParts.{LayoutParts}
use Rattle.hp_units.specs.Arithmetic.{IsFrame, frame_count}
use Rattle.hp_units.specs.Memory.{FreeFrames, Memory, cached_list, kernel_order, with_kernel_order}
use Rattle.hp_units.specs.ProcessorLists.{Handed}
use Rattle.hp_units.specs.KernelBlocks.{kernel_block}
use Rattle.hp_units.specs.Rows.{zone_of}
use Rattle.hp_units.specs.Step.{done, give_back, kernel_gives, kernel_takes, with_free}
use Rattle.hp_units.specs.declared.events.Event.TheVariants.{KernelAlloc, KernelFree}
use Rattle.hp_units.specs.declared.replies.Refusal.TheVariants.{NoFrame}
use Rattle.hp_units.specs.declared.replies.Reply.TheVariants.{Done, Frame as GivesFrame, Refused}
use Rattle.hp_units.specs.declared.rows.Zone.{Zone}
use Rattle.hp_units.specs.declared.rows.Pool.TheVariants.{Nu as NuPool}
use Rattle.hp_tape.specs.declared.deltas.Delta.{Delta}
use Rattle.hp_tape.specs.Bounds.{take_one_from}
use Rattle.hp_tape.specs.Deltas.{FrameView}
use Rattle.hp_tape.specs.Tapes.{NotesFree, TapeValue}
use Rattle.hp_plain.specs.Asked.{asked}
use Rattle.hp_layers.specs.declared.frames.Frames.{Frames}
use Rattle.hp_layers.specs.declared.layers.Layers.{Layers}
use Rattle.hp_layers.specs.Frames.{IsGiven, IsTaken, free_of, give_back_bound, given_back, kernel_block_bound}
use Rattle.hp_pages.specs.Kernel.{NotesKernel}
use Rattle.hp_layers.specs.Layers.{ArePlaced, IsAnswered, state_of, view_of}
use Rattle.hp_layers.proofs.Answers.{frames-one, give_back-few, give_back-is, hands-none, hands-some, noted, notes-then}
use Rattle.hp_layers.proofs.Lifts.{notes-free, notes-kernel}

-- ---- what a KernelAlloc answers

takes : (l : LayoutParts) (s : Memory) (cpu order : ℕ) (handed : Handed)
    → kernel_block l s.free cpu order ≡ Some handed
    → kernel_takes l s cpu order ≡ record {
      memory =
          with_kernel_order (with_free s handed.free) handed.frame (Some order);
      reply = GivesFrame handed.frame;
    }
unfolding kernel_takes
takes l s cpu order handed is = rw is refl

taken : (l : LayoutParts) (s : Memory) (cpu order : ℕ) (handed : Handed) → order ≤ l.order
    → kernel_block l s.free cpu order ≡ Some handed
    → asked l s cpu (KernelAlloc order) ≡ record {
      memory =
          with_kernel_order (with_free s handed.free) handed.frame (Some order);
      reply = GivesFrame handed.frame;
    }
taken l s cpu order handed low is = rw (le-ltb l.order order low, is) (takes l s cpu order handed is)

none-taken : (l : LayoutParts) (s : Memory) (cpu order : ℕ) → order ≤ l.order
    → kernel_block l s.free cpu order ≡ None
    → asked l s cpu (KernelAlloc order) ≡ record { memory = s; reply = Refused NoFrame }
none-taken l s cpu order low none = rw (le-ltb l.order order low, none) refl

-- ---- what the layers do

kernel_few : (l : LayoutParts) (fs : FreeFrames) (cpu order : ℕ) → 1 ≤ l.batch
    → kernel_block_bound l fs cpu order + 1 ≤ l.batch * (l.order + 2) + 3
kernel_few l fs cpu zero some = list_few (cached_list fs cpu NuPool)
  where
    list_few : (xs : List ℕ) → take_one_from l xs + 1 ≤ l.batch * (l.order + 2) + 3
    list_few [] = omega arith
    list_few (x ∷ xs) = omega arith
kernel_few l fs cpu (suc order) some =
    omega (arith, le_times l.batch (l.order + 2) some)
  where
    le_times : (n m : ℕ) → 1 ≤ n → m ≤ n * m
    le_times zero m some = omega arith
    le_times (suc n) m some = omega arith

-- a block that was taken starts in the layout
pub taken-low : (m : Layers) (wanted : Option Handed) (order most : ℕ) (f : Frames) (was now : TapeValue)
    (frame : ℕ) → ArePlaced m → IsTaken wanted order most m.frames f was now (Some frame)
    → frame < length m.kernel
taken-low m wanted order most f was now frame p t =
    rw (p.one.kernel, ← p.one.cpus) (let some = pow_pos order in omega (arith, t.block.within, some))

-- there is no block for the kernel
pub kernel-refused : (m : Layers) (f : Frames) (cpu order most : ℕ) (was now : TapeValue) → ArePlaced m
    → order ≤ m.layout.order
    → IsTaken (kernel_block m.frames.cpus.layout (free_of m.frames) cpu order) order most m.frames f was now
    None
    → asked m.layout (state_of m) cpu (KernelAlloc order)
    ≡ record { memory = state_of m; reply = Refused NoFrame }
kernel-refused m f cpu order most was now p low t =
    none-taken m.layout (state_of m) cpu order low
    (rw (← p.one.cpus) (hands-none _ (free_of m.frames) (free_of f) t.handed))

-- the kernel takes a block
pub kernel-taken : {before : List Delta} (m : Layers) (f : Frames) (kernel : List (Option ℕ))
    (cpu order frame : ℕ) (was mid now : TapeValue)
    → ArePlaced m → order ≤ m.layout.order → was.deltas ≡ before
    → IsTaken (kernel_block m.frames.cpus.layout (free_of m.frames) cpu order) order
    (kernel_block_bound m.frames.cpus.layout (free_of m.frames) cpu order) m.frames f was mid (Some frame)
    → kernel ≡ set m.kernel frame (Some order)
    → ((l : LayoutParts) → IsFrame l frame → NotesKernel l 1 mid now kernel m.kernel)
    → IsAnswered m (KernelAlloc order) (asked m.layout (state_of m) cpu (KernelAlloc order))
    (record m { frames = f; kernel = kernel }) before now.deltas (GivesFrame frame)
kernel-taken {before} m f kernel cpu order frame was mid now p low none t set_is notes =
    let l = m.layout in
    let same : m.frames.cpus.layout ≡ l = p.one.cpus in
    let is : kernel_block l (free_of m.frames) cpu order ≡ Some (record { free = free_of f; frame = frame }) =
    rw (← same) (hands-some _ _ _ frame t.handed) in
    let one = frames-one m f p.one t.layout t.tidy.layout in
    let inside : frame < frame_count l =
    rw (← same) (let some = pow_pos order in omega (arith, t.block.within, some)) in
    let v = view_of m in
    let first =
    notes-free v l (kernel_block_bound l (free_of m.frames) cpu order) was mid (free_of f)
    (free_of m.frames)
    (rw (← same) t.notes) in
    let second = notes-kernel (record v { free = free_of f }) l 1 mid now kernel m.kernel (notes l inside) in
    rw (taken l (state_of m) cpu order _ low is) (record {
      led = record {
        one =
            record {
              layout = one.layout;
              buddy = one.buddy;
              cpus = one.cpus;
              pages = one.pages;
              kernel = ap length set_is ∙ (length-set m.kernel frame (Some order) ∙ one.kernel);
              blocks = one.blocks;
            };
        layout = refl;
        view = rw set_is (ap (λ (w : FrameView). record v
            { free = free_of f; pages = w.pages; kernel = set m.kernel frame (Some order) }) p.view);
      };
      reply = refl;
      noted =
          noted l _ _ was now _ _ none (kernel_few l (free_of m.frames) cpu order p.one.layout.some_batch)
          (notes-then l _ 1 was mid now _ _ v first second);
    })

-- ---- what a KernelFree answers

gives : (l : LayoutParts) (s : Memory) (cpu frame order : ℕ) → kernel_order s frame ≡ Some order
    → kernel_gives l s cpu frame ≡ done (give_back l (with_kernel_order s frame None) cpu frame order)
unfolding kernel_gives
gives l s cpu frame order is = rw is refl

given : (l : LayoutParts) (s : Memory) (cpu frame order : ℕ) → frame < frame_count l
    → kernel_order s frame ≡ Some order
    → asked l s cpu (KernelFree frame) ≡ done (give_back l (with_kernel_order s frame None) cpu frame order)
given l s cpu frame order low is = rw (lt-leb (frame_count l) frame low, is) (gives l s cpu frame order is)

-- a block of the kernel comes back
kernel-given-in : {before : List Delta} (m : Layers) (f : Frames) (kernel : List (Option ℕ))
    (cpu frame order : ℕ) (was mid now : TapeValue)
    → ArePlaced m → frame < frame_count m.layout → was.deltas ≡ before
    → kernel_order (state_of m) frame ≡ Some order → kernel ≡ set m.kernel frame None
    → ((l : LayoutParts) → IsFrame l frame → NotesKernel l 1 was mid kernel m.kernel)
    → IsGiven (given_back m.frames.cpus.layout (free_of m.frames) cpu (zone_of m.layout (state_of m) frame)
    frame order)
    (give_back_bound m.frames.cpus.layout (free_of m.frames) cpu (zone_of m.layout (state_of m) frame) frame
    order) m.frames f mid now
    → IsAnswered m (KernelFree frame) (asked m.layout (state_of m) cpu (KernelFree frame))
    (record m { frames = f; kernel = kernel }) before now.deltas Done
kernel-given-in {before} m f kernel cpu frame order was mid now p low none is set_is notes g =
    let l = m.layout in
    let s = state_of m in
    let zone = zone_of l s frame in
    let fs = free_of m.frames in
    let same : m.frames.cpus.layout ≡ l = p.one.cpus in
    let free_is : free_of f ≡ given_back l fs cpu zone frame order =
    subst (λ (k : LayoutParts). free_of f ≡ given_back k fs cpu zone frame order) same g.given in
    let one = frames-one m f p.one g.layout g.tidy.layout in
    let v = view_of m in
    let first = notes-kernel v l 1 was mid kernel m.kernel (notes l low) in
    let second =
    notes-free (record v { kernel = kernel }) l (give_back_bound l fs cpu zone frame order) mid now
    (free_of f) fs
    (subst (λ (k : LayoutParts).
    NotesFree k (give_back_bound k fs cpu zone frame order) mid now (free_of f) fs) same g.notes) in
    rw (given l s cpu frame order low is)
    (rw (give_back-is l (with_kernel_order s frame None) cpu frame order) (record {
      led = record {
        one =
            record {
              layout = one.layout;
              buddy = one.buddy;
              cpus = one.cpus;
              pages = one.pages;
              kernel = ap length set_is ∙ (length-set m.kernel frame None ∙ one.kernel);
              blocks = one.blocks;
            };
        layout = refl;
        view = rw (set_is, free_is) (ap (λ (w : FrameView). record v {
          free = given_back l fs cpu zone frame order;
          pages = w.pages;
          kernel = set m.kernel frame None;
        }) p.view);
      };
      reply = refl;
      noted =
          noted l _ _ was now _ _ none (let few = give_back-few l fs cpu zone frame order p.one.layout in
          omega (arith, few)) (notes-then l 1 _ was mid now _ _ v first second);
    }))

-- the same, by the zone that was read
pub kernel-given : {before : List Delta} (m : Layers) (f : Frames) (kernel : List (Option ℕ))
    (cpu frame order : ℕ) (zone : Zone) (was mid now : TapeValue)
    → ArePlaced m → frame < frame_count m.layout → was.deltas ≡ before
    → kernel_order (state_of m) frame ≡ Some order → kernel ≡ set m.kernel frame None
    → ((l : LayoutParts) → IsFrame l frame → NotesKernel l 1 was mid kernel m.kernel)
    → zone ≡ zone_of m.layout (state_of m) frame
    → IsGiven (given_back m.frames.cpus.layout (free_of m.frames) cpu zone frame order)
    (give_back_bound m.frames.cpus.layout (free_of m.frames) cpu zone frame order) m.frames f mid now
    → IsAnswered m (KernelFree frame) (asked m.layout (state_of m) cpu (KernelFree frame))
    (record m { frames = f; kernel = kernel }) before now.deltas Done
kernel-given m f kernel cpu frame order zone was mid now p low none is set_is notes zone_is g =
    kernel-given-in m f kernel cpu frame order was mid now p low none is set_is notes
    (rw (← zone_is) g)
