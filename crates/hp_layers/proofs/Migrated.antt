-- Pages that move out of blocks which are going offline.
use Rattle.std.proofs.Common.{◌≡◌, ℕ, suc, ◌+◌, ◌*◌, ◌^◌, ◌<◌, ◌≤◌, true, false, List, Option, Some, None, refl, sym, ◌∙◌, ap, subst, arith, inl, inr}
use Rattle.std.specs.Prelude.{is_some}
use Rattle.std.proofs.lemmas.Bool.{cases_lt}
use Rattle.std.proofs.lemmas.Option.{same_Some}
use Rattle.hp_units.specs.declared.rows.Zone.{Zone}
use Rattle.std.proofs.Math.Nat.{mul-le-mul_right, suc-mul}
use Rattle.hp_units.specs.LayoutParts.{LayoutParts}
use Rattle.hp_units.specs.Arithmetic.{frame_count}
use Rattle.hp_units.specs.FreeAreas.{Taken, give_block}
use Rattle.hp_units.specs.Memory.{FreeFrames, Memory}
use Rattle.hp_units.specs.Pages.{move_page, page_at}
use Rattle.hp_units.specs.ProcessorLists.{Handed, handed_from}
use Rattle.hp_units.specs.Migrations.{migration_source, migration_target}
use Rattle.hp_units.specs.Rows.{is_live, with_areas, zone_of}
use Rattle.hp_units.specs.Step.{migrate_step, with_pages}
use Rattle.hp_units.specs.declared.events.Event.TheVariants.{Migrate}
use Rattle.hp_units.specs.declared.replies.Refusal.TheVariants.{NoFrame, NoOp, NothingToMove}
use Rattle.hp_units.specs.declared.replies.Reply.TheVariants.{Moved, Refused}
use Rattle.hp_units.proofs.Placed.{in_frames}
use Rattle.hp_tape.specs.declared.deltas.Delta.{Delta}
use Rattle.hp_tape.specs.Bounds.{give_bound, steal_bound}
use Rattle.hp_tape.specs.Deltas.{PageFrames, page_frames_of}
use Rattle.hp_tape.specs.Tapes.{NotesFree, NotesPages, TapeValue}
use Rattle.hp_laws.proofs.Options.{found_passes}
use Rattle.hp_pages.specs.Pages.{PagesValue, move_frame}
use Rattle.hp_pages.specs.Places.{holders}
use Rattle.hp_pages.proofs.Views.{view-move_page}
use Rattle.hp_pages.proofs.FrameViews.{first_none}
use Rattle.hp_plain.specs.Asked.{asked}
use Rattle.hp_layers.specs.declared.frames.Frames.{Frames}
use Rattle.hp_layers.specs.declared.layers.Layers.{Layers}
use Rattle.hp_layers.specs.Frames.{IsGiven, IsTaken, MayReturn, free_of}
use Rattle.hp_layers.specs.Layers.{ArePlaced, IsAnswered, state_of, view_of}
use Rattle.hp_layers.proofs.Answers.{hands-none, hands-some, noted, notes-then}
use Rattle.hp_layers.proofs.Lifts.{notes-free, notes-pages}
use Rattle.hp_layers.proofs.PageEvents.{both-one, pages_once, pages_seen, taken-free, taken-inside}

-- ---- the page that moves

-- the source holds a page
pub source-holds : (m : Layers) (op from : ℕ) → migration_source m.layout (state_of m) op ≡ Some from
    → is_some (page_at (state_of m).pages from) ≡ true
source-holds m op from is = found_passes (λ frame. is_some (page_at (state_of m).pages frame)) _ from is

pub source-mapped : (m : Layers) (from : ℕ) → is_some (page_at (state_of m).pages from) ≡ true
    → 1 ≤ holders m.pages.pages.table from
source-mapped m from holds = elim (cases_lt 0 (holders m.pages.pages.table from)) [
  | inl some ↦ some
  | inr none ↦
      let empty : page_at (state_of m).pages from ≡ None =
      first_none m.pages.pages.table from (omega arith) in
      absurd (let no : is_some (page_at (state_of m).pages from) ≡ false = rw empty in cc)
]

pub source-inside : (m : Layers) (from : ℕ) → ArePlaced m → is_some (page_at (state_of m).pages from) ≡ true
    → from < frame_count m.layout
source-inside m from p holds =
    in_frames m.layout (state_of m) from p.one.layout p.placed
    (let some = source-mapped m from holds in omega (arith, some))

-- after the target is taken, the source frame may still come back
pub source-returns : (m : Layers) (wanted : Option Handed) (most : ℕ) (f : Frames) (was now : TapeValue)
    (from to : ℕ)
    → ArePlaced m → is_some (page_at (state_of m).pages from) ≡ true
    → IsTaken wanted 0 most m.frames f was now (Some to) → MayReturn f 0 from
source-returns m wanted most f was now from to p holds t = record {
  in_order = omega arith;
  aligned = omega arith;
  within = rw (t.layout, p.one.cpus) (let inside = source-inside m from p holds in omega (arith, inside));
  nowhere = λ o above below.
      let same : o ≡ from = omega arith in
      rw same (omega (arith, p.placed.once from, source-mapped m from holds, t.block.places from));
}

-- ---- what a Migrate answers

target-is : (fs : FreeFrames) (t : Option Taken) (new : FreeFrames) (to : ℕ)
    → handed_from fs t ≡ Some (record { free = new; frame = to })
    → (t ≡ Some (record { areas = new.areas; frame = to })) × (new.cached ≡ fs.cached)
target-is fs None new to is = absurd cc
target-is fs (Some taken) new to is =
    let e = same_Some _ _ is in
    let areas : taken.areas ≡ new.areas = ap (λ (h : Handed). h.free.areas) e in
    let frame : taken.frame ≡ to = ap (λ (h : Handed). h.frame) e in (
      rw (areas, frame),
      sym (ap (λ (h : Handed). h.free.cached) e),
    )

migrates : (l : LayoutParts) (s : Memory) (op from : ℕ) (taken : Taken) → migration_source l s op ≡ Some from
    → migration_target l s.free.areas ≡ Some taken
    → migrate_step l s op ≡ record {
      memory = with_areas (with_pages s (move_page s.pages from taken.frame))
          (give_block l taken.areas (zone_of l s from) from 0);
      reply = Moved from taken.frame;
    }
unfolding migrate_step
migrates l s op from taken source target = rw (source, target) refl

migrated : (l : LayoutParts) (s : Memory) (op from : ℕ) (taken : Taken) → is_live s.blocks op ≡ true
    → migration_source l s op ≡ Some from → migration_target l s.free.areas ≡ Some taken
    → asked l s 0 (Migrate op) ≡ record {
      memory = with_areas
          (with_pages s (move_page s.pages from taken.frame))
          (give_block l taken.areas (zone_of l s from) from 0);
      reply = Moved from taken.frame;
    }
migrated l s op from taken live source target =
    rw (live, source, target) (migrates l s op from taken source target)

-- no frame was found
not-handed : (fs : FreeFrames) (t : Option Taken) → handed_from fs t ≡ None → t ≡ None
not-handed fs None e = refl
not-handed fs (Some t) e = absurd cc

migrate-none : (l : LayoutParts) (s : Memory) (op from : ℕ) → is_live s.blocks op ≡ true
    → migration_source l s op ≡ Some from → migration_target l s.free.areas ≡ None
    → asked l s 0 (Migrate op) ≡ record { memory = s; reply = Refused NoFrame }
migrate-none l s op from live source target = rw (live, source, target) refl

-- nothing is left to move
pub migrate-idle : (l : LayoutParts) (s : Memory) (op : ℕ) → is_live s.blocks op ≡ true
    → migration_source l s op ≡ None
    → asked l s 0 (Migrate op) ≡ record { memory = s; reply = Refused NothingToMove }
migrate-idle l s op live none = rw (live, none) refl

-- the operation holds no block
pub migrate-over : (l : LayoutParts) (s : Memory) (op : ℕ) → is_live s.blocks op ≡ false
    → asked l s 0 (Migrate op) ≡ record { memory = s; reply = Refused NoOp }
migrate-over l s op over = rw over refl

pub migrate-refused : (m : Layers) (f : Frames) (op from most : ℕ) (was now : TapeValue) → ArePlaced m
    → is_live m.blocks.blocks op ≡ true → migration_source m.layout (state_of m) op ≡ Some from
    → IsTaken (handed_from (free_of m.frames) (migration_target m.frames.cpus.layout m.frames.buddy.areas)) 0
    most m.frames f was now None
    → asked m.layout (state_of m) 0 (Migrate op) ≡ record { memory = state_of m; reply = Refused NoFrame }
migrate-refused m f op from most was now p live source t =
    migrate-none m.layout (state_of m) op from live source
    (subst (λ (k : LayoutParts). migration_target k m.frames.buddy.areas ≡ None) p.one.cpus
    (not-handed (free_of m.frames) _ (hands-none _ (free_of m.frames) (free_of f) t.handed)))

pub migrate-done : {before : List Delta} (m : Layers) (f g : Frames) (ps : PagesValue) (op from to : ℕ)
    (zone : Zone) (was mid more now : TapeValue)
    → ArePlaced m → was.deltas ≡ before → is_live m.blocks.blocks op ≡ true
    → migration_source m.layout (state_of m) op ≡ Some from
    → IsTaken (handed_from (free_of m.frames) (migration_target m.frames.cpus.layout m.frames.buddy.areas)) 0
    (steal_bound m.frames.cpus.layout) m.frames f was mid (Some to)
    → ps.layout ≡ m.pages.layout → ps.pages ≡ move_frame m.pages.pages from to
    → NotesPages m.pages.layout 2 mid more ps.pages m.pages.pages → zone ≡ zone_of m.layout (state_of m) from
    → IsGiven (record (free_of f) { areas = give_block f.cpus.layout f.buddy.areas zone from 0 })
    (give_bound f.cpus.layout) f g more now
    → IsAnswered m (Migrate op) (asked m.layout (state_of m) 0 (Migrate op))
    (record m { frames = g; pages = ps }) before now.deltas (Moved from to)
migrate-done {before} m f g ps op from to zone was mid more now p none live source t layout_is set_is notes
    zone_is given =
    let l = m.layout in
    let s = state_of m in
    let v = view_of m in
    let fs = free_of m.frames in
    let same : m.frames.cpus.layout ≡ l = p.one.cpus in
    let behind : f.cpus.layout ≡ l = t.layout ∙ same in
    let target = target-is fs (migration_target l m.frames.buddy.areas) (free_of f) to
    (rw (← same) (hands-some _ _ _ to t.handed)) in
    let page = some_page (page_at s.pages from) (source-holds m op from source) in
    let seen : ps.pages ≡ page_frames_of l (move_page s.pages from to) =
    set_is ∙ (ap (λ (q : PageFrames). move_frame q from to) (pages_seen m p)
    ∙ sym (view-move_page l s.pages page.0.0 page.0.1 from to (pages_once m p)
    (taken-inside m _ _ f was mid to p t) page.1 (taken-free m _ _ f was mid to p t))) in
    let free_is : free_of g
    ≡ record { areas = give_block l f.buddy.areas (zone_of l s from) from 0; cached = fs.cached } =
    rw (given.given, behind, zone_is, target.1) in
    let first =
    notes-free v l (steal_bound l) was mid (free_of f) fs
    (subst (λ (k : LayoutParts). NotesFree k (steal_bound k) was mid (free_of f) fs) same t.notes) in
    let second =
    notes-pages (record v { free = free_of f }) l 2 mid more ps.pages m.pages.pages
    (subst (λ (k : LayoutParts). NotesPages k 2 mid more ps.pages m.pages.pages) p.one.pages notes) in
    let third = notes-free (record v { pages = ps.pages }) l (give_bound l) more now (free_of g) (free_of f)
    (rw (← behind) given.notes) in
    rw (migrated l s op from _ live source target.0) (record {
      led = record {
        one = both-one m g ps p (given.layout ∙ t.layout) given.tidy.layout layout_is;
        layout = refl;
        view = rw (seen, free_is);
      };
      reply = refl;
      noted =
          noted l _ _ was now _ _ none (omega arith) (notes-then l (steal_bound l + 2) (give_bound l) was more
          now _ _ v (notes-then l (steal_bound l) 2 was mid more _ _ v first second) third);
    })
  where
    some_page : (o : Option (ℕ × ℕ)) → is_some o ≡ true → (page : ℕ × ℕ) × (o ≡ Some page)
    some_page None e = absurd cc
    some_page (Some page) e = (page, refl)

-- ---- the frames of a block

-- their numbers as the code computes them end within the layout
pub block-last : (l : LayoutParts) {block at size : ℕ} → block < l.blocks → at ≡ block
    → size ≡ l.pageblocks * 2 ^ l.order → at * size + size ≤ frame_count l
block-last l {block} {at} low here size_is =
    let more : suc block * (l.pageblocks * 2 ^ l.order) ≤ l.blocks * (l.pageblocks * 2 ^ l.order) =
    mul-le-mul_right (l.pageblocks * 2 ^ l.order) low in
    rw (size_is, here) (omega (arith, more, suc-mul block (l.pageblocks * 2 ^ l.order)))
