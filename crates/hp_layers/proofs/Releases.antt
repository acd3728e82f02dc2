-- Memory blocks that are released by their operation.
use Rattle.std.proofs.Common.{◌≡◌, ℕ, ◌+◌, ◌*◌, ◌<◌, ◌≤◌, Bool, true, false, List, [], ◌∷◌, ◌++◌, length, take, get_or, cond, refl, ap, subst, arith}
use Rattle.std.specs.List.{fold}
use Rattle.std.proofs.lemmas.List.{length-append, take_more}
use Rattle.hp_plain.specs.Asked.{asked}
use Rattle.hp_units.specs.declared.events.Event.TheVariants.{Cancel}
use Rattle.hp_units.specs.declared.replies.Reply.TheVariants.{Released}
use Rattle.std.proofs.lemmas.List.Sums.{fold_push}
use Rattle.hp_units.specs.declared.events.Event.{Event}
use Rattle.hp_units.specs.declared.replies.Reply.{Reply}
use Rattle.hp_units.specs.declared.rows.Row.{Row}
use Rattle.hp_units.specs.declared.rows.Zone.{Zone}
use Rattle.hp_units.specs.LayoutParts.{LayoutParts}
use Rattle.hp_units.specs.Isolation.{move_block}
use Rattle.hp_units.specs.Memory.{Blocks, FreeAreas, Memory, with_row}
use Rattle.hp_units.specs.Rows.{blocks_of, is_live, release_blocks, release_block, with_areas, with_block_row, zone_of_block}
use Rattle.hp_tape.specs.declared.deltas.Delta.{Delta}
use Rattle.hp_tape.specs.Bounds.{delta_bound, move_bound, moved_block_bound}
use Rattle.hp_tape.specs.Deltas.{Fits, undo}
use Rattle.hp_tape.specs.Tapes.{NotesBlocks, NotesFree, TapeValue}
use Rattle.hp_tape.proofs.Leads.{notes-more}
use Rattle.hp_pages.specs.Blocks.{BlocksValue}
use Rattle.hp_buddy.proofs.Rooms.{one_done}
use Rattle.hp_layers.specs.declared.frames.Frames.{Frames}
use Rattle.hp_layers.specs.declared.layers.Layers.{Layers}
use Rattle.hp_layers.specs.Frames.{IsGiven, IsTidy, free_of}
use Rattle.hp_layers.specs.Layers.{AreOfOneLayout, ArePlaced, IsAnswered, IsOfMemory, state_of, view_of}
use Rattle.hp_layers.specs.Operations.{IsReworked}
use Rattle.hp_layers.proofs.Answers.{frames-one, noted, notes-then}
use Rattle.hp_layers.proofs.Claims.{reworked-then, row-one}
use Rattle.hp_layers.proofs.Lifts.{notes-blocks, notes-free}
use Rattle.hp_layers.proofs.OnlineBlocks.{reworked-led}

-- ---- one block

-- the pageblocks of a block change their class, and then its row changes
pub moved : (m : Layers) (f : Frames) (bs : BlocksValue) (block : ℕ) (flag : Bool) (zone : Zone) (row : Row)
    (was mid now : TapeValue)
    → AreOfOneLayout m → zone ≡ zone_of_block m.blocks.blocks block
    → IsGiven (record (free_of m.frames) { areas = move_block m.layout zone flag m.frames.buddy.areas block })
    (m.layout.pageblocks * move_bound m.layout) m.frames f was mid
    → bs.blocks ≡ with_row m.blocks.blocks block row → bs.layout ≡ m.blocks.layout
    → NotesBlocks m.blocks.layout 1 mid now bs.blocks m.blocks.blocks
    → IsReworked m (with_areas (with_block_row (state_of m) block row) (move_block m.layout
    (zone_of_block m.blocks.blocks block) flag m.frames.buddy.areas block)) (moved_block_bound m.layout)
    (record m { frames = f; blocks = bs }) was now
moved m f bs block flag zone row was mid now one zone_is g set_is layout_is notes =
    let l = m.layout in
    let v = view_of m in
    let first = notes-free v l (l.pageblocks * move_bound l) was mid (free_of f) (free_of m.frames)
    (subst (λ (k : LayoutParts).
    NotesFree k (l.pageblocks * move_bound l) was mid (free_of f) (free_of m.frames)) one.cpus g.notes) in
    let second =
    notes-blocks (record v { free = free_of f }) l 1 mid now bs.blocks m.blocks.blocks
    (subst (λ (k : LayoutParts). NotesBlocks k 1 mid now bs.blocks m.blocks.blocks) one.blocks notes) in
    record {
      one = row-one (record m { frames = f }) bs (frames-one m f one g.layout g.tidy.layout) layout_is;
      layout = refl;
      pages = refl;
      kernel = refl;
      tidy = g.tidy;
      state = rw (g.given, zone_is, set_is);
      notes =
          notes-more IsOfMemory Fits undo l (l.pageblocks * move_bound l + 1) (moved_block_bound l) was now _
          _
          (omega arith) (notes-then l _ 1 was mid now _ _ v first second);
    }

-- a block's row alone changes
pub row-set : (m : Layers) (bs : BlocksValue) (block : ℕ) (row : Row) (was now : TapeValue) → AreOfOneLayout m
    → IsTidy m.frames
    → bs.blocks ≡ with_row m.blocks.blocks block row → bs.layout ≡ m.blocks.layout
    → NotesBlocks m.blocks.layout 1 was now bs.blocks m.blocks.blocks
    → IsReworked m (with_block_row (state_of m) block row) (moved_block_bound m.layout)
    (record m { blocks = bs }) was now
row-set m bs block row was now one tidy set_is layout_is notes =
    let l = m.layout in
    record {
      one = row-one m bs one layout_is;
      layout = refl;
      pages = refl;
      kernel = refl;
      tidy = tidy;
      state = ap (λ (b : Blocks). record (state_of m) { blocks = b }) set_is;
      notes = notes-more IsOfMemory Fits undo l 1 (moved_block_bound l) was now _ _ (omega arith)
          (notes-blocks (view_of m) l 1 was now bs.blocks m.blocks.blocks (rw (← one.blocks) notes));
    }

-- the pageblocks of a block change, and then its row
pub areas-and-row : (m : Layers) (f : Frames) (bs : BlocksValue) (block most total : ℕ) (areas : FreeAreas)
    (row : Row) (was mid now : TapeValue)
    → AreOfOneLayout m → most + 1 ≤ total
    → IsGiven (record (free_of m.frames) { areas = areas }) most m.frames f was mid
    → bs.blocks ≡ with_row m.blocks.blocks block row → bs.layout ≡ m.blocks.layout
    → NotesBlocks m.blocks.layout 1 mid now bs.blocks m.blocks.blocks
    → IsReworked m (with_areas (with_block_row (state_of m) block row) areas) total
    (record m { frames = f; blocks = bs }) was now
areas-and-row m f bs block most total areas row was mid now one le g set_is layout_is notes =
    let l = m.layout in
    let v = view_of m in
    let first =
    notes-free v l most was mid (free_of f) (free_of m.frames) (rw (← one.cpus) g.notes) in
    let second =
    notes-blocks (record v { free = free_of f }) l 1 mid now bs.blocks m.blocks.blocks
    (subst (λ (k : LayoutParts). NotesBlocks k 1 mid now bs.blocks m.blocks.blocks) one.blocks notes) in
    record {
      one = row-one (record m { frames = f }) bs (frames-one m f one g.layout g.tidy.layout) layout_is;
      layout = refl;
      pages = refl;
      kernel = refl;
      tidy = g.tidy;
      state = rw (g.given, set_is);
      notes =
          notes-more IsOfMemory Fits undo l (most + 1) total was now _ _ le
          (notes-then l most 1 was mid now _ _ v first second);
    }

-- ---- the blocks of an operation

-- one more block is changed
pub fold-further : (rule : Memory → ℕ → Memory) (s : Memory) (blocks : List ℕ) (number block : ℕ)
    → number < length blocks → get_or blocks number 0 ≡ block
    → fold rule s (take (number + 1) blocks) ≡ rule (fold rule s (take number blocks)) block
fold-further rule s blocks number block low here =
    rw (take_more blocks number 0 low, here) (fold_push rule s (take number blocks) block)

pub blocks-further : (rule : LayoutParts → Memory → ℕ → Memory) (bound : LayoutParts → ℕ) (m n o : Layers)
    (blocks : List ℕ) (number block : ℕ) (was mid now : TapeValue)
    → number < length blocks → get_or blocks number 0 ≡ block
    → IsReworked m (fold (rule m.layout) (state_of m) (take number blocks)) (number * bound m.layout) n was
    mid
    → IsReworked n (rule n.layout (state_of n) block) (bound n.layout) o mid now
    → IsReworked m (fold (rule m.layout) (state_of m) (take (number + 1) blocks))
    ((number + 1) * bound m.layout) o was now
blocks-further rule bound m n o blocks number block was mid now low here a b =
    let l = m.layout in
    let each = bound l in
    rw (fold-further (rule l) (state_of m) blocks number block low here)
    (reworked-then (λ k s. rule k s block) bound m n o (fold (rule l) (state_of m) (take number blocks))
    (number * each) ((number + 1) * each) was mid now (let e = one_done number each in omega (arith, e)) a b)

-- ---- the answer

-- an event that changes the free frames and the rows alone
pub reworked-answered : {before : List Delta} (m new : Layers) (event : Event) (s : Memory) (reply : Reply)
    (most : ℕ) (was now : TapeValue)
    → ArePlaced m → was.deltas ≡ before → most ≤ delta_bound m.layout (state_of m) event
    → IsReworked m s most new was now
    → IsAnswered m event (record { memory = s; reply = reply }) new before now.deltas reply
reworked-answered m new event s reply most was now p none le r = record {
  led = reworked-led m new s most was now p r;
  reply = refl;
  noted = noted m.layout most _ was now (view_of new) (view_of m) none le r.notes;
}

-- an operation that is released
released : (l : LayoutParts) (s : Memory) (op : ℕ) → is_live s.blocks op ≡ true
    → asked l s 0 (Cancel op)
    ≡ record { memory = fold (release_block l) s (blocks_of l s.blocks op); reply = Released }
unfolding release_blocks
released l s op live = rw live refl

pub cancel-done : {before : List Delta} (m new : Layers) (op : ℕ) (blocks : List ℕ) (was now : TapeValue)
    → ArePlaced m → was.deltas ≡ before → is_live m.blocks.blocks op ≡ true
    → blocks ≡ blocks_of m.layout m.blocks.blocks op
    → IsReworked m (fold (release_block m.layout) (state_of m) blocks)
    (length blocks * moved_block_bound m.layout) new was now
    → IsAnswered m (Cancel op) (asked m.layout (state_of m) 0 (Cancel op)) new before now.deltas Released
cancel-done {before} m new op blocks was now p none live is r =
    let all = blocks_of m.layout m.blocks.blocks op in
    rw (released m.layout (state_of m) op live)
    (reworked-answered m new (Cancel op) (fold (release_block m.layout) (state_of m) all) Released (length all
    * moved_block_bound m.layout) was now p none (omega arith) (rw (← is) r))

-- a list with one number more, or with none, has at most one more entry
pub push-few : (xs ys : List ℕ) (b : Bool) (x n : ℕ) → ys ≡ xs ++ cond b (x ∷ []) [] → length xs ≤ n
    → length ys ≤ n + 1
push-few xs ys true x n is few = omega (arith, ap length is, length-append xs (x ∷ []), few)
push-few xs ys false x n is few = omega (arith, ap length is, length-append xs [], few)
