-- A migration gives one page another frame, leaves each other page where it is, and changes no
-- word.
use Rattle.std.proofs.Common.{◌≡◌, ◌≢◌, ℕ, ◌≤◌, ◌==◌, List, cond, Option, Some, None, refl, sym, ◌∙◌, ap, arith, eq-eqb, ne_eqb}
use Rattle.std.proofs.lemmas.Bool.{cond-true, cond-false}
use Rattle.std.specs.Prelude.{is_some}
use Rattle.std.specs.Option.{option_map}
use Rattle.hp_units.specs.declared.events.Event.TheVariants.{Migrate}
use Rattle.hp_units.specs.declared.replies.Refusal.{Refusal}
use Rattle.hp_units.specs.declared.replies.Reply.{Reply}
use Rattle.hp_units.specs.declared.replies.Reply.TheVariants.{Done, Moved, Refused}
use Rattle.hp_units.specs.LayoutParts.{LayoutParts}
use Rattle.hp_units.specs.Memory.{Memory, entry_of, with_entry, Pages}
use Rattle.hp_units.specs.Migrations.{migration_source, migration_target}
use Rattle.hp_units.specs.Pages.{frame_at, page_at}
use Rattle.hp_units.specs.Step.{answer, migrate_step, step, Answered}
use Rattle.hp_units.specs.Placement.{IsWellPlaced, covered, mapped_places}
use Rattle.hp_units.proofs.ListEdits.{covered-self}
use Rattle.hp_units.proofs.Tables.{IsElsewhere, IsTable, entry-apart, entry-cases, entry_within, held, held-some, in_pages, mapped-places, mapped_some, table_of, with_entry-table}
use Rattle.hp_laws.proofs.Migrations.{page_found}
use Rattle.hp_laws.proofs.Options.{found_passes, option_cases}
use Rattle.hp_laws.proofs.OwnedContents.{migrate_step-contents}

-- ---- no word changes

-- by the answer
answer-words : (l : LayoutParts) (s : Memory) (serial cpu op : ℕ) (o : Option Refusal)
    → (answer l s serial cpu (Migrate op) o).memory.pages.contents ≡ s.pages.contents
answer-words l s serial cpu op (Some refusal) = refl
answer-words l s serial cpu op None = migrate_step-contents l s op

pub migrate-words : (l : LayoutParts) (s : Memory) (serial cpu op : ℕ)
    → (step l s serial cpu (Migrate op)).memory.pages.contents ≡ s.pages.contents
unfolding step
migrate-words l s serial cpu op = answer-words l s serial cpu op _

-- ---- the frames of the pages

-- the frame of a page after a reply, by the one before
abbrev frame_after : Reply → ℕ → ℕ
frame_after (Moved from to) frame = cond (frame == from) to frame
frame_after reply frame = frame

-- a page that isn't at the old frame stays
stays : (from to : ℕ) (e : Option ℕ) → e ≢ Some from → e ≡ option_map (frame_after (Moved from to)) e
stays from to None ne = refl
stays from to (Some frame) ne =
    ap (λ (n : ℕ). Some n) (sym
    (cond-false (frame == from) to frame (ne_eqb frame from (λ same. ne (ap (λ (n : ℕ). Some n) same)))))

-- the page at the old frame gets the new one
comes : (from to : ℕ) → Some to ≡ option_map (frame_after (Moved from to)) (Some from)
comes from to = ap (λ (n : ℕ). Some n) (sym (cond-true (from == from) to from (eq-eqb from from refl)))

-- of two pages at most one is at a frame
at_another : (owners pages : ℕ) (table : List (List (Option ℕ))) (owner page from o p : ℕ)
    → IsTable owners pages table → entry_of table owner page ≡ Some from → in_pages from table ≤ 1
    → IsElsewhere owner page o p → entry_of table o p ≢ Some from
at_another owners pages table owner page from o p is e once elsewhere there =
    let within = entry_within owners pages table owner page from is e in
    let less =
    rw e at (mapped-places owners pages table owner page None from within.owner_in within.page_in is) in
    let one : held from (Some from) ≡ covered from 0 from = held-some from from in
    let self : covered from 0 from ≡ 1 = covered-self 0 from in
    let some : 1 ≤ in_pages from (with_entry table owner page None) =
    mapped_some owners pages _ o p from (with_entry-table owners pages table
    owner page None within.owner_in is) (entry-apart table owner page None o p elsewhere ∙ there) in
    omega arith

-- one entry is written
written-frames : (owners pages : ℕ) (table : List (List (Option ℕ))) (owner page from to : ℕ)
    → IsTable owners pages table → entry_of table owner page ≡ Some from → in_pages from table ≤ 1
    → (o p : ℕ)
    → entry_of (with_entry table owner page (Some to)) o p
    ≡ option_map (frame_after (Moved from to)) (entry_of table o p)
written-frames owners pages table owner page from to is e once =
    let within = entry_within owners pages table owner page from is e in
    entry-cases (λ (o p : ℕ) (x : Option ℕ). x ≡ option_map (frame_after (Moved from to))
    (entry_of table o p)) owners pages table owner page _ within.owner_in within.page_in is
    (comes from to ∙ ap (λ (x : Option ℕ). option_map (frame_after (Moved from to)) x) (sym e))
    (λ o p elsewhere. stays from to _ (at_another owners pages table owner page from o p is e once elsewhere))

-- no page moves
same-frame : (e : Option ℕ) → e ≡ option_map (frame_after Done) e
same-frame None = refl
same-frame (Some frame) = refl

refused-frame : (refusal : Refusal) (e : Option ℕ) → e ≡ option_map (frame_after (Refused refusal)) e
refused-frame refusal None = refl
refused-frame refusal (Some frame) = refl

-- a page of a state is where the answer leaves it
abbrev IsMoved : Memory → (o p : ℕ) → Answered → Type 0
IsMoved s o p a = frame_at a.memory.pages o p ≡ option_map (frame_after a.reply) (frame_at s.pages o p)

-- where the pages of a state are after the step
pub migrate_step-frames : (l : LayoutParts) (s : Memory) (op o p : ℕ) → IsWellPlaced l s
    → IsMoved s o p (migrate_step l s op)
unfolding migrate_step
migrate_step-frames l s op o p placed =
    option_cases (λ a. IsMoved s o p a) _ (migration_source l s op) _ (λ from source.
    option_cases (λ a. IsMoved s o p a) _ (migration_target l s.free.areas) _ (λ taken target.
    option_cases (λ (ps : Pages). frame_at ps o p ≡ option_map (frame_after (Moved from taken.frame))
    (frame_at s.pages o p)) _ (page_at s.pages from) _ (λ page found.
    let once : mapped_places s.pages from ≤ 1 = omega (arith, placed.once from) in
    written-frames l.owners l.pages s.pages.table page.0 page.1 from taken.frame
    (table_of l s placed.in_order) (page_found s from page found) once o p)
    (λ none. cc (rw none at (found_passes (λ frame. is_some (page_at s.pages frame)) _ from source))))
    (λ none. same-frame (frame_at s.pages o p))) (λ none. same-frame (frame_at s.pages o p))

-- by the answer
answer-frames : (l : LayoutParts) (s : Memory) (serial cpu op o p : ℕ) (refused : Option Refusal)
    → IsWellPlaced l s
    → frame_at (answer l s serial cpu (Migrate op) refused).memory.pages o p
    ≡ option_map (frame_after (answer l s serial cpu (Migrate op) refused).reply) (frame_at s.pages o p)
answer-frames l s serial cpu op o p (Some refusal) placed = refused-frame refusal _
answer-frames l s serial cpu op o p None placed = migrate_step-frames l s op o p placed

-- the page that was at the old frame is at the new one, and each other page where it was
pub migrate-frames : (l : LayoutParts) (s : Memory) (serial cpu op from to o p : ℕ) → IsWellPlaced l s
    → (step l s serial cpu (Migrate op)).reply ≡ Moved from to
    → frame_at (step l s serial cpu (Migrate op)).memory.pages o p
    ≡ option_map (λ frame. cond (frame == from) to frame) (frame_at s.pages o p)
unfolding step
migrate-frames l s serial cpu op from to o p placed replied =
    rw (answer-frames l s serial cpu op o p _ placed, replied)
