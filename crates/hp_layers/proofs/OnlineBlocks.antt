-- Memory blocks that go online, and the layers after changes of the free frames and the rows.
use Rattle.std.proofs.Common.{◌≡◌, ℕ, ◌+◌, ◌*◌, ◌^◌, ◌<◌, ◌≤◌, true, Some, None, refl, sym, ◌∙◌, ap, subst, arith}
use Rattle.std.proofs.lemmas.Bool.{cond-true}
use Rattle.std.proofs.Math.Nat.{mul_assoc, add-mul}
use Rattle.hp_units.specs.declared.rows.Zone.{Zone}
use Rattle.hp_units.specs.declared.rows.State.TheVariants.{Online as OnlineState}
use Rattle.hp_units.specs.LayoutParts.{LayoutParts}
use Rattle.hp_units.specs.Arithmetic.{block_of}
use Rattle.hp_units.specs.Isolation.{add_block}
use Rattle.hp_units.specs.Memory.{Memory, row_of, with_row}
use Rattle.hp_units.specs.Placement.{is_unplugged, offline_places}
use Rattle.hp_units.specs.Rows.{online_block}
use Rattle.hp_tape.specs.Bounds.{online_bound}
use Rattle.hp_tape.specs.Deltas.{FrameView, frame_view_of, page_frames_of}
use Rattle.hp_tape.specs.Tapes.{NotesBlocks, NotesFree, TapeValue}
use Rattle.hp_pages.specs.Pages.{PagesValue, pages_of}
use Rattle.hp_pages.specs.Blocks.{BlocksValue}
use Rattle.hp_laws.proofs.Onlines.{quotient}
use Rattle.hp_layers.specs.declared.frames.Frames.{Frames}
use Rattle.hp_layers.specs.declared.layers.Layers.{Layers}
use Rattle.hp_layers.specs.Frames.{IsGiven, free_of, places_of}
use Rattle.hp_layers.specs.Layers.{AreLedTo, ArePlaced, state_of, view_of}
use Rattle.hp_layers.specs.Operations.{IsReworked}
use Rattle.hp_layers.proofs.Answers.{frames-one, notes-then}
use Rattle.hp_layers.proofs.Claims.{row-one}
use Rattle.hp_layers.proofs.Lifts.{notes-blocks, notes-free}

-- ---- a block goes online

-- no frame of an offline or absent block has a place
pub unplugged-nowhere : (m : Layers) (block : ℕ) → ArePlaced m
    → is_unplugged (row_of m.blocks.blocks block) ≡ true → (o : ℕ)
    → block * m.layout.pageblocks * 2 ^ m.layout.order ≤ o
    → o < (block * m.layout.pageblocks + m.layout.pageblocks) * 2 ^ m.layout.order → places_of m.frames o ≡ 0
unplugged-nowhere m block p off o low high =
    let l = m.layout in
    let first = mul_assoc block l.pageblocks (2 ^ l.order) in
    let here : block_of l o ≡ block =
    quotient o (l.pageblocks * 2 ^ l.order) block (omega (arith, low, first))
    (omega (arith, high, add-mul (block * l.pageblocks) l.pageblocks (2 ^ l.order), first)) in
    let counts : offline_places l (state_of m) o ≡ 1 =
    cond-true (is_unplugged (row_of m.blocks.blocks (block_of l o))) 1 0
    (subst (λ (b : ℕ). is_unplugged (row_of m.blocks.blocks b) ≡ true) (sym here) off) in
    omega (arith, p.placed.once o, counts)

pub onlined : (m : Layers) (f : Frames) (bs : BlocksValue) (zone : Zone) (block : ℕ) (was mid now : TapeValue)
    → ArePlaced m
    → bs.blocks
    ≡ with_row m.blocks.blocks block (record { state = OnlineState; zone = Some zone; claim = None })
    → bs.layout ≡ m.blocks.layout → NotesBlocks m.blocks.layout 1 was mid bs.blocks m.blocks.blocks
    → IsGiven (record (free_of m.frames) { areas = add_block m.layout zone m.frames.buddy.areas block })
    m.layout.pageblocks m.frames f mid now
    → IsReworked m (online_block m.layout zone (state_of m) block) (online_bound m.layout)
    (record m { frames = f; blocks = bs }) was now
unfolding online_block
onlined m f bs zone block was mid now p set_is layout_is notes g =
    let l = m.layout in
    let v = view_of m in
    let one = frames-one m f p.one g.layout g.tidy.layout in
    let first =
    notes-blocks v l 1 was mid bs.blocks m.blocks.blocks
    (subst (λ (k : LayoutParts). NotesBlocks k 1 was mid bs.blocks m.blocks.blocks) p.one.blocks notes) in
    let second =
    notes-free (record v { blocks = bs.blocks }) l l.pageblocks mid now (free_of f) (free_of m.frames)
    (subst (λ (k : LayoutParts). NotesFree k l.pageblocks mid now (free_of f) (free_of m.frames)) p.one.cpus
    g.notes) in
    record {
      one = row-one (record m { frames = f }) bs one layout_is;
      layout = refl;
      pages = refl;
      kernel = refl;
      tidy = g.tidy;
      state = rw (g.given, set_is);
      notes = notes-then l 1 l.pageblocks was mid now _ _ v first second;
    }

-- ---- the layers after changes of the free frames and the rows

same_view : (v w : FrameView) → v.free ≡ w.free → v.pages ≡ w.pages → v.kernel ≡ w.kernel
    → v.blocks ≡ w.blocks → v ≡ w
same_view v w free pages kernel blocks = rw (free, pages, kernel, blocks)

pub reworked-led : (m new : Layers) (s : Memory) (most : ℕ) (was now : TapeValue) → ArePlaced m
    → IsReworked m s most new was now → AreLedTo m s new
reworked-led m new s most was now p r = record {
  one = r.one;
  layout = r.layout;
  view = same_view (view_of new) (frame_view_of m.layout s) (ap (λ (t : Memory). t.free) r.state)
      (ap (λ (ps : PagesValue). ps.pages) r.pages ∙ (ap (λ (v : FrameView). v.pages) p.view
      ∙ ap (page_frames_of m.layout) (ap (λ (ps : PagesValue). pages_of m.layout ps.pages) (sym r.pages)
      ∙ (ap (λ (l : LayoutParts). pages_of l new.pages.pages) (sym r.layout)
      ∙ ap (λ (t : Memory). t.pages) r.state))))
      (ap (λ (t : Memory). t.kernel) r.state) (ap (λ (t : Memory). t.blocks) r.state);
}
