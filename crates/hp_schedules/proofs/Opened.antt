-- What one record more makes of the operations that Cancels can take back whole.
use Rattle.std.proofs.Common.{◌≡◌, ℕ, Bool, true, false, cond, eqb, List, [], ◌∷◌, ◌++◌, length, map, take, Option, Some, None, refl, ap, subst, ◌∙◌, arith}
use Rattle.std.specs.Prelude.{◌&&◌}
use Rattle.std.proofs.lemmas.Bool.{eq-eqb, eqb-true, cases_Bool}
use Rattle.std.proofs.lemmas.List.{length-map, map-append, take-append-le, take_all}
use Rattle.std.proofs.lemmas.List.Recursion.{and_push}
use Rattle.std.proofs.lemmas.Option.{slice_get_within}
use Rattle.hp_units.specs.History.{cut_or_add, effect_of, is_refused, net_with, net_with_effect, run}
use Rattle.hp_units.specs.LayoutParts.{LayoutParts}
use Rattle.hp_units.specs.Marks.{begins, holds_only_own_work, is_opening, is_work_of, mark_of, sole_at, tag_of}
use Rattle.hp_units.specs.Memory.{Memory}
use Rattle.hp_units.specs.declared.events.Event.{Event}
use Rattle.hp_units.specs.declared.events.Event.TheVariants.{Read, Begin, DrainFor, Migrate, Cancel, UndoAfter}
use Rattle.hp_units.specs.declared.marks.Mark.{Mark}
use Rattle.hp_units.specs.declared.marks.Mark.TheVariants.{Opens, Works, Other}
use Rattle.hp_units.specs.declared.marks.Tag.{Tag}
use Rattle.hp_units.specs.declared.replies.Record.{Record}
use Rattle.hp_laws.proofs.Records.{with_good}
use Rattle.hp_laws.proofs.Replays.{net_bad}
use Rattle.hp_laws.proofs.Undo.{sole_sound}
use Rattle.hp_schedules.specs.Alike.{leaves_steps}
use Rattle.hp_schedules.specs.Openings.{AreOpen, Opening, after_cancel, after_work, change_by, change_of}
use Rattle.hp_schedules.specs.declared.changes.Change.TheVariants.{Stays, Ends}
use Rattle.hp_schedules.proofs.Openings.{changed, openings_after}

-- ---- where an operation is sole

only_push : (op : ℕ) (ts : List Tag) (t : Tag)
    → holds_only_own_work op (ts ++ t ∷ []) ≡ (holds_only_own_work op ts && is_work_of op t.mark)
only_push op = and_push (holds_only_own_work op) (λ u. is_work_of op u.mark) refl (λ u us. refl)

-- no Begin is an operation's own work
begins_no_work : (op : ℕ) (m : Mark) (b : Bool) → (is_opening m && b) ≡ true → is_work_of op m ≡ false
begins_no_work op Opens b h = refl
begins_no_work op m b h = absurd cc

-- one step more: it begins the operation, or it is its own work and the operation was sole
pub sole_push : (op : ℕ) (ts : List Tag) (t : Tag)
    → sole_at op (ts ++ t ∷ [])
    ≡ cond (begins op t) (Some (length ts)) (cond (is_work_of op t.mark) (sole_at op ts) None)
unfolding sole_at
sole_push op [] t = grind (arith, cases_Bool)
sole_push op (u ∷ ts) t = grind (arith, cases_Bool, sole_push op ts t, only_push, begins_no_work)

-- the same of records
sole_more : (op : ℕ) (net : List Record) (r : Record) (m : Mark) → mark_of r.event ≡ m
    → sole_at op (map tag_of (net ++ r ∷ []))
    ≡ cond (is_opening m && eqb r.serial op) (Some (length net))
    (cond (is_work_of op m) (sole_at op (map tag_of net)) None)
sole_more op net r m is =
    rw (map-append tag_of net (r ∷ []), sole_push op (map tag_of net) (tag_of r), is, length-map)

-- the steps before a sole operation's Begin are the same with one step more
before_place : (op : ℕ) (net : List Record) (r : Record) (place : ℕ)
    → sole_at op (map tag_of net) ≡ Some place → take place (net ++ r ∷ []) ≡ take place net
before_place op net r place sole =
    let found = sole_sound op (map tag_of net) place sole in
    let within = slice_get_within (map tag_of net) place found.tag found.here in
    take-append-le place net (r ∷ []) (omega (arith, within, length-map net tag_of))

-- ---- what is open

-- a Begin
begun : (l : LayoutParts) (base : Memory) (net : List Record) (was : List Opening) (r : Record)
    → mark_of r.event ≡ Opens → AreOpen l base net was
    → AreOpen l base (net ++ r ∷ []) (record { op = r.serial; memory = run l base net } ∷ was)
begun l base net was r is open_before =
    (length net, λ op. sole_more op net r Opens is, rw front, rw front open_before)
  where
    front : take (length net) (net ++ r ∷ []) ≡ net
    front =
        take-append-le (length net) net (r ∷ []) (omega arith) ∙ take_all (length net) net (omega arith)

-- a step of no operation
none_open : (l : LayoutParts) (base : Memory) (net : List Record) (r : Record) → mark_of r.event ≡ Other
    → AreOpen l base (net ++ r ∷ []) []
none_open l base net r is = λ op. sole_more op net r Other is

-- an operation's own work
worked : (l : LayoutParts) (base : Memory) (net : List Record) (was : List Opening) (r : Record) (op : ℕ)
    → mark_of r.event ≡ Works op → AreOpen l base net was → AreOpen l base (net ++ r ∷ []) (after_work op was)
worked l base net [] r op is nothing =
    λ other. rw (sole_more other net r (Works op) is, nothing other)
    (elim (eqb op other) as (λ b. cond {A = Option ℕ} b None None ≡ None) [ true ↦ refl | false ↦ refl ])
worked l base net (o ∷ os) r op is some = by_first (eqb o.op op) refl
  where
    sole : (other : ℕ) → sole_at other (map tag_of (net ++ r ∷ []))
        ≡ cond (eqb op other) (cond (eqb o.op other) (Some some.0) None) None
    sole other = rw (sole_more other net r (Works op) is, some.1 other)

    front : take some.0 (net ++ r ∷ []) ≡ take some.0 net
    front =
        before_place o.op net r some.0 (rw (some.1 o.op, eq-eqb o.op o.op refl))

    twice : (b : Bool) → cond b (cond b (Some some.0) None) None ≡ cond b (Some some.0) None
    twice true = refl
    twice false = refl

    kept : o.op ≡ op → AreOpen l base (net ++ r ∷ []) (o ∷ os)
    kept same =
        (some.0, λ other. rw (sole other, ← same) (twice (eqb o.op other)), rw front some.2, rw front some.3)

    apart : eqb o.op op ≡ false → (other : ℕ) → (b : Bool) → eqb op other ≡ b
        → cond b (cond (eqb o.op other) (Some some.0) None) None ≡ None
    apart differ other true same = rw (← eqb-true op other same, differ)
    apart differ other false same = refl

    by_first : (b : Bool) → eqb o.op op ≡ b → AreOpen l base (net ++ r ∷ []) (cond b (o ∷ os) [])
    by_first true same = kept (eqb-true o.op op same)
    by_first false differ = λ other. sole other ∙ apart differ other (eqb op other) refl

-- a Cancel
cancelled : (l : LayoutParts) (base : Memory) (net : List Record) (was : List Opening) (r : Record) (op : ℕ)
    → mark_of r.event ≡ Other → AreOpen l base net was
    → AreOpen l base (cut_or_add net r (sole_at op (map tag_of net))) (after_cancel op was)
cancelled l base net [] r op is nothing =
    rw (nothing op) (none_open l base net r is)
cancelled l base net (o ∷ os) r op is some =
    rw (some.1 op) (elim (eqb o.op op) as (λ b.
    AreOpen l base (cut_or_add net r (cond b (Some some.0) None)) (cond b os []))
    [ true ↦ some.3 | false ↦ none_open l base net r is ])

-- one record more
pub open_more : (l : LayoutParts) (base : Memory) (net : List Record) (was : List Opening) (r : Record)
    → leaves_steps (effect_of r.event) ≡ true → AreOpen l base net was
    → AreOpen l base (net_with net r) (openings_after (run l base net) was r)
open_more l base net was r leaves h = by_reply (is_refused r.reply) refl
  where
    by_event : (e : Event) → r.event ≡ e → leaves_steps (effect_of e) ≡ true
        → AreOpen l base (net_with_effect net r (effect_of e))
        (changed (run l base net) r.serial was (change_by e))
    by_event (Read owner page index) same left = h
    by_event (Begin plan) same left = begun l base net was r (ap mark_of same) h
    by_event (DrainFor op cpu) same left = worked l base net was r op (ap mark_of same) h
    by_event (Migrate op) same left = worked l base net was r op (ap mark_of same) h
    by_event (Cancel op) same left = cancelled l base net was r op (ap mark_of same) h
    by_event (UndoAfter serial) same left = absurd cc
    by_event e same left = none_open l base net r (ap mark_of same)

    by_reply : (refused : Bool) → is_refused r.reply ≡ refused
        → AreOpen l base (net_with net r)
        (changed (run l base net) r.serial was (cond refused Stays (change_by r.event)))
    by_reply true is = subst (λ (steps : List Record). AreOpen l base steps was) (net_bad net r is) h
    by_reply false is = rw (with_good net r is) (by_event r.event refl leaves)

-- after a step of no operation nothing is open, whatever was
pub none_after : (l : LayoutParts) (base : Memory) (net : List Record) (r : Record)
    → leaves_steps (effect_of r.event) ≡ true → change_of r ≡ Ends → AreOpen l base (net_with net r) []
none_after l base net r leaves ends = by_reply (is_refused r.reply) refl ends
  where
    by_event : (e : Event) → r.event ≡ e → leaves_steps (effect_of e) ≡ true → change_by e ≡ Ends
        → AreOpen l base (net_with_effect net r (effect_of e)) []
    by_event (Read owner page index) same left is = absurd cc
    by_event (Begin plan) same left is = absurd cc
    by_event (DrainFor op cpu) same left is = absurd cc
    by_event (Migrate op) same left is = absurd cc
    by_event (Cancel op) same left is = absurd cc
    by_event (UndoAfter serial) same left is = absurd cc
    by_event e same left is = none_open l base net r (ap mark_of same)

    by_reply : (refused : Bool) → is_refused r.reply ≡ refused
        → cond refused Stays (change_by r.event) ≡ Ends → AreOpen l base (net_with net r) []
    by_reply true is told = absurd cc
    by_reply false is told = rw (with_good net r is) (by_event r.event refl leaves told)
