-- Memory blocks that operations claim and isolate.
use Rattle.std.proofs.Common.{◌≡◌, ℕ, zero, suc, ◌+◌, ◌*◌, ◌<◌, ◌≤◌, List, length, add-one, refl, ◌∙◌, ap, subst, arith, inl, inr, ◌++◌}
use Rattle.std.specs.Prelude.{true}
use Rattle.std.specs.List.{fold, range_with_len}
use Rattle.std.proofs.Math.Nat.{mul-le-mul_right, add-mul}
use Rattle.std.proofs.lemmas.Bool.{cases_eq}
use Rattle.std.proofs.lemmas.List.{length-append}
use Rattle.hp_plain.proofs.Scans.{fold-below_more}
use Rattle.hp_units.specs.declared.plans.Item.{Item}
use Rattle.hp_units.specs.declared.rows.Wish.{Wish}
use Rattle.hp_units.specs.declared.rows.Wish.TheVariants.{Off as OffWish}
use Rattle.hp_units.specs.declared.rows.Zone.{Zone}
use Rattle.hp_units.specs.LayoutParts.{LayoutParts}
use Rattle.hp_units.specs.Isolation.{move_block}
use Rattle.hp_units.specs.Memory.{Memory, row_of, with_row}
use Rattle.hp_units.specs.Rows.{begin_block, claim_block, claimed_row, zone_of_block}
use Rattle.hp_tape.specs.Bounds.{move_bound, moved_block_bound}
use Rattle.hp_tape.specs.Tapes.{HasRoom, NotesBlocks, NotesFree, TapeValue}
use Rattle.hp_tape.proofs.Leads.{notes-more, notes-none}
use Rattle.hp_tape.specs.Deltas.{Fits, undo}
use Rattle.hp_pages.specs.Blocks.{BlocksValue}
use Rattle.hp_layers.specs.declared.frames.Frames.{Frames}
use Rattle.hp_layers.specs.declared.layers.Layers.{Layers}
use Rattle.hp_layers.specs.Frames.{IsGiven, IsTidy, free_of}
use Rattle.hp_layers.specs.Layers.{AreOfOneLayout, IsOfMemory, state_of, view_of}
use Rattle.hp_layers.specs.Operations.{IsReworked, claimed_at, claimed_below}
use Rattle.hp_layers.proofs.Answers.{frames-one, notes-then}
use Rattle.hp_layers.proofs.Lifts.{notes-blocks, notes-free}

-- ---- several changes

-- no change
pub reworked-none : (m : Layers) (most : ℕ) (tape : TapeValue) → AreOfOneLayout m → IsTidy m.frames
    → IsReworked m (state_of m) most m tape tape
reworked-none m most tape one tidy = record {
  one = one;
  layout = refl;
  pages = refl;
  kernel = refl;
  tidy = tidy;
  state = refl;
  notes = notes-none IsOfMemory Fits undo m.layout most tape (view_of m);
}

-- two changes, the later by a rule of the layout on the state that the earlier left
pub reworked-then : (rule : LayoutParts → Memory → Memory) (bound : LayoutParts → ℕ) (m n o : Layers)
    (s : Memory) (done total : ℕ) (was mid now : TapeValue)
    → done + bound m.layout ≤ total
    → IsReworked m s done n was mid → IsReworked n (rule n.layout (state_of n)) (bound n.layout) o mid now
    → IsReworked m (rule m.layout s) total o was now
reworked-then rule bound m n o s done total was mid now le a b =
    let c = subst (λ (l : LayoutParts). IsReworked n (rule l (state_of n)) (bound l) o mid now) a.layout b in
    let d = rw a.layout at c.notes in
    record {
      one = c.one;
      layout = c.layout ∙ a.layout;
      pages = c.pages ∙ a.pages;
      kernel = c.kernel ∙ a.kernel;
      tidy = c.tidy;
      state = c.state ∙ ap (rule m.layout) a.state;
      notes =
          notes-more IsOfMemory Fits undo m.layout (done + bound m.layout) total was now (view_of o)
          (view_of m) le
          (notes-then m.layout done (bound m.layout) was mid now (view_of o) (view_of n) (view_of m) a.notes
          d);
    }

-- ---- one block

-- a row that changed
pub row-one : (m : Layers) (bs : BlocksValue) → AreOfOneLayout m → bs.layout ≡ m.blocks.layout
    → AreOfOneLayout (record m { blocks = bs })
row-one m bs one same =
    record {
      layout = one.layout;
      buddy = one.buddy;
      cpus = one.cpus;
      pages = one.pages;
      kernel = one.kernel;
      blocks = same ∙ one.blocks;
    }

-- a block that is going is isolated and claimed
pub isolated : (m : Layers) (f : Frames) (bs : BlocksValue) (op block : ℕ) (zone : Zone)
    (was mid now : TapeValue)
    → AreOfOneLayout m → zone ≡ zone_of_block m.blocks.blocks block
    → IsGiven (record (free_of m.frames) { areas = move_block m.layout zone true m.frames.buddy.areas block })
    (m.layout.pageblocks * move_bound m.layout) m.frames f was mid
    → bs.blocks ≡ with_row m.blocks.blocks block (claimed_row (row_of m.blocks.blocks block) op OffWish)
    → bs.layout ≡ m.blocks.layout → NotesBlocks m.blocks.layout 1 mid now bs.blocks m.blocks.blocks
    → IsReworked m (claim_block m.layout op (state_of m) block OffWish) (moved_block_bound m.layout)
    (record m { frames = f; blocks = bs }) was now
isolated m f bs op block zone was mid now one zone_is g set_is layout_is notes =
    let l = m.layout in
    let v = view_of m in
    let first = notes-free v l (l.pageblocks * move_bound l) was mid (free_of f) (free_of m.frames)
    (subst (λ (k : LayoutParts).
    NotesFree k (l.pageblocks * move_bound l) was mid (free_of f) (free_of m.frames)) one.cpus g.notes) in
    let second =
    notes-blocks (record v { free = free_of f }) l 1 mid now bs.blocks m.blocks.blocks
    (subst (λ (k : LayoutParts). NotesBlocks k 1 mid now bs.blocks m.blocks.blocks) one.blocks notes) in
    record {
      one = row-one (record m { frames = f }) bs (frames-one m f one g.layout g.tidy.layout) layout_is;
      layout = refl;
      pages = refl;
      kernel = refl;
      tidy = g.tidy;
      state = rw (g.given, zone_is, set_is);
      notes =
          notes-more IsOfMemory Fits undo l (l.pageblocks * move_bound l + 1) (moved_block_bound l) was now _
          _
          (omega arith) (notes-then l _ 1 was mid now _ _ v first second);
    }

-- any other block is only claimed
claim-other : (l : LayoutParts) (s : Memory) (op block : ℕ) (wish : Wish) → (wish ≡ OffWish → ⊥)
    → claim_block l op s block wish
    ≡ record s { blocks = with_row s.blocks block (claimed_row (row_of s.blocks block) op wish) }
claim-other l s op block OffWish other = absurd (other refl)
claim-other l s op block _ other = refl

pub claimed : (m : Layers) (bs : BlocksValue) (op block : ℕ) (wish : Wish) (was now : TapeValue)
    → AreOfOneLayout m → IsTidy m.frames → (wish ≡ OffWish → ⊥)
    → bs.blocks ≡ with_row m.blocks.blocks block (claimed_row (row_of m.blocks.blocks block) op wish)
    → bs.layout ≡ m.blocks.layout → NotesBlocks m.blocks.layout 1 was now bs.blocks m.blocks.blocks
    → IsReworked m (claim_block m.layout op (state_of m) block wish) (moved_block_bound m.layout)
    (record m { blocks = bs }) was now
claimed m bs op block wish was now one tidy other set_is layout_is notes =
    let l = m.layout in
    record {
      one = row-one m bs one layout_is;
      layout = refl;
      pages = refl;
      kernel = refl;
      tidy = tidy;
      state = rw (set_is, ← claim-other l (state_of m) op block wish other);
      notes = notes-more IsOfMemory Fits undo l 1 (moved_block_bound l) was now _ _ (omega arith)
          (notes-blocks (view_of m) l 1 was now bs.blocks m.blocks.blocks (rw (← one.blocks) notes));
    }

-- ---- the blocks of a plan

-- one more block is claimed
pub begun-further : (m n o : Layers) (op : ℕ) (plan : List Item) (number : ℕ) (was mid now : TapeValue)
    → IsReworked m (fold (begin_block m.layout op plan) (state_of m) (range_with_len 0 number))
    (claimed_below plan number * moved_block_bound m.layout) n was mid
    → IsReworked n (begin_block n.layout op plan (state_of n) number)
    (claimed_at plan number * moved_block_bound n.layout) o mid now
    → IsReworked m (fold (begin_block m.layout op plan) (state_of m) (range_with_len 0 (number + 1)))
    (claimed_below plan (number + 1) * moved_block_bound m.layout) o was now
begun-further m n o op plan number was mid now a b =
    let l = m.layout in
    let each = moved_block_bound l in
    let sum : claimed_below plan number * each + claimed_at plan number * each
    ≤ claimed_below plan (number + 1) * each =
    rw (add-one number) (omega (arith, add-mul (claimed_below plan number) (claimed_at plan number) each)) in
    rw (fold-below_more (begin_block l op plan) (state_of m) number)
    (reworked-then (λ k s. begin_block k op plan s number) (λ k. claimed_at plan number * moved_block_bound k)
    m n o (fold (begin_block l op plan) (state_of m) (range_with_len 0 number))
    (claimed_below plan number * each) (claimed_below plan (number + 1) * each) was mid now sum a b)

-- the claimed blocks up to a number are among those below a greater number
claimed-rises : (plan : List Item) (n m : ℕ) → n < m
    → claimed_below plan n + claimed_at plan n ≤ claimed_below plan m
claimed-rises plan n zero low = absurd (omega arith)
claimed-rises plan n (suc m) low = elim (cases_eq n m) [
  | inl same ↦ rw (← same) (omega arith)
  | inr other ↦ let h = claimed-rises plan n m (omega arith) in omega (arith, h)
]

-- so there is room for one block more
pub begin-room : (m n : Layers) (s : Memory) (plan : List Item) (number : ℕ) (was mid : TapeValue)
    → number < m.layout.blocks
    → IsReworked m s (claimed_below plan number * moved_block_bound m.layout) n was mid
    → HasRoom was (claimed_below plan m.layout.blocks * moved_block_bound m.layout)
    → HasRoom mid (claimed_at plan number * moved_block_bound n.layout)
begin-room m n s plan number was mid low a room =
    let each = moved_block_bound m.layout in
    let more = mul-le-mul_right each (claimed-rises plan number m.layout.blocks low) in
    let sum = add-mul (claimed_below plan number) (claimed_at plan number) each in
    rw a.layout (let size : length mid.deltas ≡ length (was.deltas ++ a.notes.deltas) = rw a.notes.tape in
    let same : mid.room ≡ was.room = ap (λ (t : TapeValue). t.room) a.notes.tape in
    omega (arith, room, more, sum, size, same, a.notes.few, length-append was.deltas a.notes.deltas))
