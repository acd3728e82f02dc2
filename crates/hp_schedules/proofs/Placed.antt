-- Where all processors are in their scripts, after a call and back over it.
use Rattle.std.proofs.Common.{◌≡◌, ℕ, zero, suc, ◌<◌, drop, List, [], ◌∷◌, ◌++◌, length, set, Option, Some, None, slice_get, refl, ap, sym, ◌∙◌, arith, inl, inr, map}
use Rattle.std.specs.Prelude.{flat_map}
use Rattle.std.proofs.lemmas.Bool.{ne_eqb}
use Rattle.std.proofs.lemmas.List.{append-nil, length-map, length-set}
use Rattle.std.proofs.lemmas.Option.{slice_get-map, same_Some, slice_get_within}
use Rattle.hp_laws.proofs.Lists.{get_some}
use Rattle.hp_units.specs.Receipts.{receipt_of, receipts_of}
use Rattle.hp_units.specs.declared.events.Event.{Event}
use Rattle.hp_units.specs.declared.replies.Receipt.{Receipt}
use Rattle.hp_units.specs.declared.replies.Record.{Record}
use Rattle.hp_schedules.specs.Cursors.{AreCursors, IsCalledFor, IsCursor, IsRequested, IsSettled, IsSteered, asks_at, cursor_at, frames_ahead, frames_named, steering_of}
use Rattle.hp_schedules.specs.Schedules.{Setting, next_call}
use Rattle.hp_schedules.specs.Scripts.{frames_of, own_operation, next_of}
use Rattle.hp_schedules.specs.declared.cursors.Cursor.{Cursor}
use Rattle.hp_schedules.specs.declared.cursors.NextCall.{NextCall}
use Rattle.hp_schedules.specs.declared.scripts.Step.{Step}
use Rattle.hp_schedules.proofs.Asked.{begins}
use Rattle.hp_schedules.proofs.Counts.{get_set_cases}
use Rattle.hp_schedules.proofs.Plays.{asks_within}
use Rattle.hp_schedules.proofs.Steps.{receipts_own, receipts_push}

-- ---- where the scripts begin

pub all_begun : (g : Setting) (cpus : ℕ) (scripts : List (List Step)) (cursors : List Cursor)
    → g.scripts ≡ scripts → g.layout.cpus ≡ cpus
    → cursors ≡ map (λ (lines : List Step). cursor_at cpus lines 0 0) scripts → AreCursors g [] cursors
all_begun g cpus scripts cursors scripts_is cpus_is is =
    record {
      many = rw (begun, length-map);
      each = λ cpu lines c here there. rw (← made cpu lines c here there) (begins g.layout.cpus lines);
      settled = λ cpu lines c here there off k line at is.
          let at_first : 0 ≡ c.line = ap (λ (d : Cursor). d.line) (made cpu lines c here there) in
          absurd (omega (arith, at, at_first));
    }
  where
    begun : cursors ≡ map (λ (lines : List Step). cursor_at g.layout.cpus lines 0 0) g.scripts
    begun = rw (scripts_is, cpus_is) is

    made : (cpu : ℕ) (lines : List Step) (c : Cursor) → slice_get g.scripts cpu ≡ Some lines
        → slice_get cursors cpu ≡ Some c → cursor_at g.layout.cpus lines 0 0 ≡ c
    made cpu lines c here there = let at = rw (begun, slice_get-map, here) at there in cc

-- ---- a request

-- the event that a processor's script asks for
pub asked_is : (g : Setting) (news : List Record) (cpus cpu : ℕ) (lines : List Step) (next : Option Event)
    → cpus ≡ g.layout.cpus → slice_get g.scripts cpu ≡ Some lines
    → next ≡ next_of cpus lines (receipts_of cpu news) → next_call g cpu news ≡ next
unfolding next_call
asked_is g news cpus cpu lines next same here is = rw (here, next_call, is, same)

pub called_for : (g : Setting) (news : List Record) (cpu : ℕ) (lines : List Step) (q : Option NextCall)
    → slice_get g.scripts cpu ≡ Some lines → IsRequested g.layout.cpus lines (receipts_of cpu news) q
    → IsCalledFor g cpu news q
called_for g news cpu lines None here none =
    asked_is g news g.layout.cpus cpu lines None refl here (sym none)
called_for g news cpu lines (Some q) here some = (
  asked_is g news g.layout.cpus cpu lines (Some q.event) refl here (sym some.0),
  λ ls there. let same : lines ≡ ls = cc in (rw (← same) some.1, rw (← same) some.2),
)

-- from its cursor
pub requested_at : (g : Setting) (news : List Record) (cpus cpu : ℕ) (lines : List Step)
    (cursors : List Cursor) (cursor : Cursor) (q : Option NextCall)
    → g.layout.cpus ≡ cpus → slice_get g.scripts cpu ≡ Some lines → slice_get cursors cpu ≡ Some cursor
    → AreCursors g news cursors
    → (IsCursor cpus lines (receipts_of cpu news) cursor → IsRequested cpus lines (receipts_of cpu news) q)
    → IsCalledFor g cpu news q
requested_at g news cpus cpu lines cursors cursor q cpus_is here there all asks =
    called_for g news cpu lines q here
    (rw cpus_is (asks (rw (← cpus_is) (all.each cpu lines cursor here there))))

-- a processor whose script asks for something has one
pub called_within : (g : Setting) (cpu : ℕ) (news : List Record) (scripts : List (List Step)) (event : Event)
    → g.scripts ≡ scripts → next_call g cpu news ≡ Some event → cpu < length scripts
called_within g cpu news scripts event scripts_is asked =
    rw scripts_is at (asks_within g news cpu event asked)

-- ---- one call more, and back over it

pub set_back : (xs : List Cursor) (k : ℕ) (c former : Cursor) → slice_get xs k ≡ Some former
    → set (set xs k c) k former ≡ xs
set_back [] k c former here = absurd cc
set_back (x ∷ xs) zero c former here = ap (λ (y : Cursor). y ∷ xs) (sym (same_Some x former here))
set_back (x ∷ xs) (suc k) c former here = ap (λ (ys : List Cursor). x ∷ ys) (set_back xs k c former here)

cursors_more : (g : Setting) (news : List Record) (r : Record) (cursors : List Cursor) (lines : List Step)
    (later : Cursor)
    → slice_get g.scripts r.cpu ≡ Some lines
    → IsCursor g.layout.cpus lines (receipts_of r.cpu news ++ receipt_of r ∷ []) later
    → IsSettled lines later → AreCursors g news cursors
    → AreCursors g (news ++ r ∷ []) (set cursors r.cpu later)
cursors_more g news r cursors lines later here is settles all =
    record {
      many = length-set cursors r.cpu later ∙ all.many;
      each = λ k ls c h i. elim (get_set_cases _ _ _ k c i) [
        | inl own ↦ rw (← own.1, ← same_lines k _ own.0 h, own.0, receipts_own news r) is
        | inr off ↦ rw (other k off.0) (all.each k ls c h off.1)
      ];
      settled = λ k ls c h i. elim (get_set_cases _ _ _ k c i) [
        | inl own ↦ rw (← own.1, ← same_lines k _ own.0 h) settles
        | inr off ↦ all.settled k ls c h off.1
      ];
    }
  where
    same_lines : (k : ℕ) (ls : List Step) → k ≡ r.cpu → slice_get g.scripts k ≡ Some ls → lines ≡ ls
    same_lines k ls at h = cc

    other : (k : ℕ) → (k ≡ r.cpu → ⊥) → receipts_of k (news ++ r ∷ []) ≡ receipts_of k news
    other k off =
        receipts_push k news r _ (ne_eqb r.cpu k (λ same. off (sym same))) ∙ append-nil (receipts_of k news)

-- the processor's cursor goes on from where its script asked for the call
pub went_on : (g : Setting) (news : List Record) (r : Record) (cpus cpu : ℕ) (lines : List Step)
    (old new : List Cursor) (later : Cursor) (request : NextCall)
    → g.layout.cpus ≡ cpus → r.cpu ≡ cpu → slice_get g.scripts cpu ≡ Some lines
    → ((receipts : List Receipt) (event : Event) → IsCursor cpus lines receipts request.from
    → asks_at receipts request.from lines ≡ Some event
    → IsCursor cpus lines (receipts ++ receipt_of r ∷ []) later × IsSettled lines later)
    → new ≡ set old cpu later → AreCursors g news old → IsCalledFor g cpu news (Some request)
    → AreCursors g (news ++ r ∷ []) new
went_on g news r cpus cpu lines old new later request cpus_is whose here after is all called =
    let call = called.1 lines here in
    let moved = after (receipts_of cpu news) request.event (rw (← cpus_is) call.0) call.1 in
    rw (is, ← whose)
    (cursors_more g news r old lines later (rw whose here) (rw (whose, cpus_is) moved.0) moved.1 all)

-- ---- the operation that a processor began last

pub operation_at : (g : Setting) (news : List Record) (cursors : List Cursor) (cursor : Cursor) (cpu : ℕ)
    → slice_get cursors cpu ≡ Some cursor → AreCursors g news cursors
    → cursor.op ≡ own_operation (receipts_of cpu news)
operation_at g news cursors cursor cpu here all =
    let less = slice_get_within cursors cpu cursor here in
    let lines = get_some g.scripts cpu (omega (arith, less, all.many)) in
    (all.each cpu lines.0 cursor lines.1 here).begun

-- ---- the numbers of a processor's cursor

pub steered_at : (f : ℕ → ℕ) (g : Setting) (news : List Record) (cpu : ℕ) (lines shown : List Step)
    (cursors : List Cursor) (cursor : Cursor)
    → slice_get g.scripts cpu ≡ Some lines
    → ((frames : List ℕ) (k : ℕ)
    → flat_map (frames_named frames) (drop k shown) ≡ flat_map (frames_named frames) (drop k lines))
    → slice_get cursors cpu ≡ Some cursor → AreCursors g news cursors
    → IsSteered f g cpu news (steering_of f cursor ++ frames_ahead cursor shown (receipts_of cpu news))
steered_at f g news cpu lines shown cursors cursor here same there all ls script =
    let read : lines ≡ ls = cc in
    let numbers = same (frames_of (receipts_of cpu news)) cursor.line in
    (cursor, all.each cpu ls cursor script there, rw (numbers, read))
