-- Events of single memory blocks, and their answers.
use Rattle.std.proofs.Common.{◌≡◌, ℕ, ◌/◌, ◌<◌, ◌≤◌, List, true, Option, Some, None, refl, sym, ◌∙◌, ap, subst, arith}
use Rattle.std.proofs.lemmas.Bool.{not-false, or_left, or_right}
use Rattle.std.proofs.lemmas.List.{set-set}
use Rattle.hp_units.specs.declared.events.Event.{Event}
use Rattle.hp_units.specs.declared.events.Event.TheVariants.{Probe, Remove}
use Rattle.hp_units.specs.declared.replies.Refusal.{Refusal}
use Rattle.hp_units.specs.declared.replies.Reply.{Reply}
use Rattle.hp_units.specs.declared.replies.Reply.TheVariants.{Done, Refused}
use Rattle.hp_units.specs.declared.rows.Auto.{Auto}
use Rattle.hp_units.specs.declared.rows.Auto.TheVariants.{Offline, Online, OnlineKernel, OnlineMovable}
use Rattle.hp_units.specs.declared.rows.Row.{Row}
use Rattle.hp_units.specs.declared.rows.State.TheVariants.{Online as OnlineState}
use Rattle.hp_units.specs.declared.rows.Zone.{Zone}
use Rattle.hp_units.specs.LayoutParts.{LayoutParts}
use Rattle.hp_units.specs.Arithmetic.{block_bytes}
use Rattle.hp_units.specs.Choices.{first_some}
use Rattle.hp_units.specs.Memory.{Blocks, Memory, offline_row, row_of}
use Rattle.hp_units.specs.Placement.{is_unplugged}
use Rattle.hp_units.specs.Refusals.{event_refusals}
use Rattle.hp_units.specs.Rows.{is_absent, is_offline, online_block, with_block_row}
use Rattle.hp_units.specs.Step.{answer, auto_online, perform}
use Rattle.hp_tape.specs.Bounds.{delta_bound, online_bound}
use Rattle.hp_tape.specs.Deltas.{Fits, undo}
use Rattle.hp_tape.specs.Tapes.{NotesBlocks, TapeValue}
use Rattle.hp_tape.specs.declared.deltas.Delta.{Delta}
use Rattle.hp_tape.proofs.Leads.{notes-more}
use Rattle.hp_pages.specs.Blocks.{BlocksValue}
use Rattle.hp_laws.proofs.EventSteps.{below, then_none}
use Rattle.hp_laws.proofs.OwnedContents.{all_none}
use Rattle.hp_plain.specs.Asked.{asked}
use Rattle.hp_layers.specs.declared.layers.Layers.{Layers}
use Rattle.hp_layers.specs.Frames.{IsTidy}
use Rattle.hp_layers.specs.Layers.{AreOfOneLayout, ArePlaced, IsAnswered, IsOfMemory, state_of, view_of}
use Rattle.hp_layers.specs.Operations.{IsReworked}
use Rattle.hp_layers.specs.SingleBlocks.{added_zone}
use Rattle.hp_layers.proofs.Answers.{refused}
use Rattle.hp_layers.proofs.Claims.{row-one}
use Rattle.hp_layers.proofs.Lifts.{notes-blocks}
use Rattle.hp_layers.proofs.Releases.{reworked-answered}

-- ---- the answers

-- an event that is refused, by the first refusal that applies
pub asked-refused : (m : Layers) (event : Event) (deltas : List Delta) (refusal : Refusal) → ArePlaced m
    → Some refusal ≡ first_some (event_refusals m.layout (state_of m) 0 event)
    → IsAnswered m event (asked m.layout (state_of m) 0 event) m deltas deltas (Refused refusal)
asked-refused m event deltas refusal p first =
    refused m event (asked m.layout (state_of m) 0 event) deltas deltas refusal p
    (ap (λ (o : Option Refusal). answer m.layout (state_of m) 0 0 event o) (sym first)) refl

-- an event that isn't refused
pub asked-reworked : {before : List Delta} (m new : Layers) (event : Event) (s : Memory) (reply : Reply)
    (most : ℕ) (was now : TapeValue)
    → ArePlaced m → None ≡ first_some (event_refusals m.layout (state_of m) 0 event)
    → perform m.layout (state_of m) 0 0 event ≡ record { memory = s; reply = reply } → was.deltas ≡ before
    → most ≤ delta_bound m.layout (state_of m) event → IsReworked m s most new was now
    → IsAnswered m event (asked m.layout (state_of m) 0 event) new before now.deltas reply
asked-reworked {before} m new event s reply most was now p first performs none le r =
    let is : asked m.layout (state_of m) 0 event ≡ record { memory = s; reply = reply } =
    ap (λ (o : Option Refusal). answer m.layout (state_of m) 0 0 event o) (sym first) ∙ performs in
    rw is (reworked-answered m new event s reply most was now p none le r)

-- ---- blocks that may go online or be removed

pub offline-low : (l : LayoutParts) (s : Memory) (block : ℕ)
    → None ≡ first_some (event_refusals l s 0 (Remove block)) → block < l.blocks
offline-low l s block first =
    below l.blocks block _ (all_none (event_refusals l s 0 (Remove block)) (sym first)).0

pub offline-unplugged : (l : LayoutParts) (s : Memory) (block : ℕ)
    → None ≡ first_some (event_refusals l s 0 (Remove block)) → is_unplugged (row_of s.blocks block) ≡ true
offline-unplugged l s block first =
    or_left (is_offline (row_of s.blocks block)) (is_absent (row_of s.blocks block))
    (not-false _ (then_none _ _ (all_none (event_refusals l s 0 (Remove block)) (sym first)).1.1.0))

pub probed-low : (l : LayoutParts) (s : Memory) (address : ℕ)
    → None ≡ first_some (event_refusals l s 0 (Probe address)) → address / block_bytes l < l.blocks
probed-low l s address first =
    below l.blocks (address / block_bytes l) _
    (all_none (event_refusals l s 0 (Probe address)) (sym first)).1.0

pub probed-unplugged : (l : LayoutParts) (s : Memory) (address : ℕ)
    → None ≡ first_some (event_refusals l s 0 (Probe address))
    → is_unplugged (row_of s.blocks (address / block_bytes l)) ≡ true
probed-unplugged l s address first =
    let none = all_none (event_refusals l s 0 (Probe address)) (sym first) in
    or_right (is_offline (row_of s.blocks (address / block_bytes l)))
    (is_absent (row_of s.blocks (address / block_bytes l))) (not-false _ (then_none _ _ none.1.1.0))

-- ---- one row changes

-- the rows, or what an added block becomes, changed by one delta
pub blocks-put : (m : Layers) (bs : BlocksValue) (wanted : Blocks) (was now : TapeValue) → AreOfOneLayout m
    → IsTidy m.frames → bs.blocks ≡ wanted → bs.layout ≡ m.blocks.layout
    → NotesBlocks m.blocks.layout 1 was now bs.blocks m.blocks.blocks
    → IsReworked m (record (state_of m) { blocks = wanted }) 1 (record m { blocks = bs }) was now
blocks-put m bs wanted was now one tidy set_is layout_is notes = record {
  one = row-one m bs one layout_is;
  layout = refl;
  pages = refl;
  kernel = refl;
  tidy = tidy;
  state = ap (λ (b : Blocks). record (state_of m) { blocks = b }) set_is;
  notes =
      notes-blocks (view_of m) m.layout 1 was now bs.blocks m.blocks.blocks
      (subst (λ (k : LayoutParts). NotesBlocks k 1 was now bs.blocks m.blocks.blocks) one.blocks notes);
}

-- ---- an added block goes online at once

-- a row written before the block goes online makes no difference
online-twice : (l : LayoutParts) (zone : Zone) (s : Memory) (block : ℕ) (row : Row)
    → online_block l zone (with_block_row s block row) block ≡ online_block l zone s block
unfolding online_block
online-twice l zone s block row =
    rw (set-set s.blocks.rows block row (record { state = OnlineState; zone = Some zone; claim = None }))

-- ---- what an added block becomes

-- a bound may be greater
reworked-more : (m new : Layers) (s : Memory) (most more : ℕ) (was now : TapeValue) → most ≤ more
    → IsReworked m s most new was now → IsReworked m s more new was now
reworked-more m new s most more was now le r = record {
  one = r.one;
  layout = r.layout;
  pages = r.pages;
  kernel = r.kernel;
  tidy = r.tidy;
  state = r.state;
  notes = notes-more IsOfMemory Fits undo m.layout most more was now (view_of new) (view_of m) le r.notes;
}

-- the state after a block is added, by the zone in which it goes online
abbrev added_to : LayoutParts → Option Zone → Memory → ℕ → Memory
added_to l None s block = s
added_to l (Some zone) s block = online_block l zone s block

added-by_zone : (l : LayoutParts) (auto : Auto) (s : Memory) (block : ℕ)
    → auto_online l auto s block ≡ added_to l (added_zone auto) s block
added-by_zone l Offline s block = refl
added-by_zone l Online s block = refl
added-by_zone l OnlineKernel s block = refl
added-by_zone l OnlineMovable s block = refl

pub added-offline : (m new : Layers) (block : ℕ) (was now : TapeValue)
    → added_zone m.blocks.blocks.auto ≡ None
    → IsReworked m (with_block_row (state_of m) block offline_row) 1 new was now
    → IsReworked m (auto_online m.layout m.blocks.blocks.auto (with_block_row (state_of m) block offline_row)
    block) (online_bound m.layout) new was now
added-offline m new block was now none r =
    let l = m.layout in
    let s = with_block_row (state_of m) block offline_row in
    let is : auto_online l m.blocks.blocks.auto s block ≡ s =
    added-by_zone l m.blocks.blocks.auto s block ∙ ap (λ (o : Option Zone). added_to l o s block) none in
    rw is (reworked-more m new s 1 (online_bound l) was now (omega arith) r)

pub added-online : (m new : Layers) (zone : Zone) (block : ℕ) (was now : TapeValue)
    → added_zone m.blocks.blocks.auto ≡ Some zone
    → IsReworked m (online_block m.layout zone (state_of m) block) (online_bound m.layout) new was now
    → IsReworked m (auto_online m.layout m.blocks.blocks.auto (with_block_row (state_of m) block offline_row)
    block) (online_bound m.layout) new was now
added-online m new zone block was now some r =
    let l = m.layout in
    let s = with_block_row (state_of m) block offline_row in
    let is : auto_online l m.blocks.blocks.auto s block ≡ online_block l zone (state_of m) block =
    added-by_zone l m.blocks.blocks.auto s block ∙ (ap (λ (o : Option Zone). added_to l o s block) some
    ∙ online-twice l zone (state_of m) block offline_row) in
    subst (λ (t : Memory). IsReworked m t (online_bound l) new was now) (sym is) r

pub probe-done : {before : List Delta} (m new : Layers) (address block : ℕ) (was now : TapeValue)
    → ArePlaced m → None ≡ first_some (event_refusals m.layout (state_of m) 0 (Probe address))
    → was.deltas ≡ before
    → block ≡ address / block_bytes m.layout
    → IsReworked m (auto_online m.layout m.blocks.blocks.auto (with_block_row (state_of m) block offline_row)
    block) (online_bound m.layout) new was now
    → IsAnswered m (Probe address) (asked m.layout (state_of m) 0 (Probe address)) new before now.deltas Done
probe-done m new address block was now p first none is r =
    let at = address / block_bytes m.layout in
    asked-reworked m new (Probe address)
    (auto_online m.layout m.blocks.blocks.auto (with_block_row (state_of m) at offline_row) at) Done
    (online_bound m.layout) was now p first refl none (omega arith)
    (rw (← is) r)
