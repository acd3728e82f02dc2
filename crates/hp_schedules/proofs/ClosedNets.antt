-- Nets that no later Cancel can drop.
use Rattle.std.proofs.Common.{◌≡◌, ℕ, suc, ◌+◌, Bool, true, false, List, [], ◌∷◌, ◌++◌, length, map, Option, None, refl, ap, sym, ◌∙◌, arith, inl, inr}
use Rattle.std.specs.Prelude.{◌&&◌, fold, option_map}
use Rattle.std.proofs.lemmas.Bool.{cases_Bool}
use Rattle.std.proofs.lemmas.List.{append-nil, append_assoc, length_push}
use Rattle.hp_units.specs.History.{effect_of, is_refused, net_of, net_with, net_with_effect}
use Rattle.hp_units.specs.Marks.{holds_only_own_work, is_opening, is_work_of, mark_of, sole_at, tag_of}
use Rattle.hp_units.specs.declared.events.Event.{Event}
use Rattle.hp_units.specs.declared.events.Event.TheVariants.{Read, Begin, DrainFor, Migrate, Cancel, UndoAfter}
use Rattle.hp_units.specs.declared.marks.Mark.TheVariants.{Other}
use Rattle.hp_units.specs.declared.replies.Record.{Record}
use Rattle.hp_laws.proofs.Records.{with_good}
use Rattle.hp_laws.proofs.Replays.{net_bad}
use Rattle.hp_schedules.specs.Alike.{IsClosed, closed_after, closed_by, is_closed}
use Rattle.hp_laws.proofs.Options.{cases_option}

-- a place further on
further_on : (n m : ℕ) (o : Option ℕ) → n + 1 ≡ m
    → option_map (λ place. n + place) (option_map suc o) ≡ option_map (λ place. m + place) o
further_on n m o is = grind arith

no_further : (o : Option ℕ) → o ≡ option_map (λ place. 0 + place) o
no_further o = grind arith

and_false : (b : Bool) → (b && false) ≡ false
and_false true = refl
and_false false = refl

-- a step that begins no operation is not where one is sole
passed : (op : ℕ) (r : Record) (tail : List Record) → is_opening (mark_of r.event) ≡ false
    → sole_at op (map tag_of (r ∷ tail)) ≡ option_map suc (sole_at op (map tag_of tail))
unfolding sole_at
passed op r tail is = rw is

-- so such a step keeps them closed
pub closed_push : (a : List Record) (r : Record) → is_opening (mark_of r.event) ≡ false → IsClosed a
    → IsClosed (a ++ r ∷ [])
closed_push a r is closed op tail = grind (arith, append_assoc, passed, further_on, length_push)

-- a step of no operation is no operation's own work
not_own : (op : ℕ) (a : List Record) (r : Record) (tail : List Record) → mark_of r.event ≡ Other
    → holds_only_own_work op (map tag_of (a ++ r ∷ tail)) ≡ false
not_own op [] r tail is = rw is
not_own op (t ∷ a) r tail is = rw (not_own op a r tail is) (and_false (is_work_of op (mark_of t.event)))

-- so it closes whatever was before
sole_after : (op : ℕ) (a : List Record) (r : Record) (tail : List Record) → mark_of r.event ≡ Other
    → sole_at op (map tag_of (a ++ r ∷ tail))
    ≡ option_map (λ place. length (a ++ r ∷ []) + place) (sole_at op (map tag_of tail))
unfolding sole_at
sole_after op [] r tail is = grind (arith, passed, cases_option)
sole_after op (t ∷ a) r tail is =
    grind (arith, not_own, and_false, cases_option, sole_after op a r tail is)

pub closed_all : (a : List Record) (r : Record) → mark_of r.event ≡ Other → IsClosed (a ++ r ∷ [])
closed_all a r is op tail = rw (append_assoc a (r ∷ []) tail) (sole_after op a r tail is)

-- one record more of the history
closed_more : (net : List Record) (r : Record) (was : Bool) → (was ≡ true → IsClosed net)
    → closed_after was r ≡ true → IsClosed (net_with net r)
closed_more net r was so_far is =
    elim (cases_Bool (is_refused r.reply)) [
      | inl h ↦ rw (← net_bad net r h) (so_far (rw h at is))
      | inr h ↦ rw (with_good net r h) (by_event r.event refl (rw h at is))
    ]
  where
    by_event : (e : Event) → r.event ≡ e → closed_by was e ≡ true
        → IsClosed (net_with_effect net r (effect_of e))
    by_event (Read owner page index) same told = so_far told
    by_event (DrainFor op cpu) same told = closed_push net r (rw same) (so_far told)
    by_event (Migrate op) same told = closed_push net r (rw same) (so_far told)
    by_event (Begin plan) same told = absurd cc
    by_event (Cancel op) same told = absurd cc
    by_event (UndoAfter serial) same told = absurd cc
    by_event e same told = closed_all net r (ap mark_of same)

-- what the test says of a history
pub closed_told : (history : List Record) → is_closed history ≡ true → IsClosed (net_of history)
unfolding net_of
closed_told history told = on history [] true (λ h op tail. no_further (sole_at op (map tag_of tail))) told
  where
    on : (rest net : List Record) (was : Bool) → (was ≡ true → IsClosed net)
        → fold closed_after was rest ≡ true → IsClosed (fold net_with net rest)
    on [] net was so_far is = so_far is
    on (r ∷ rest) net was so_far is =
        on rest (net_with net r) (closed_after was r) (closed_more net r was so_far) is

-- where the test says so, no operation is sole
pub closed_none_sole : (history : List Record) → is_closed history ≡ true → (op : ℕ)
    → sole_at op (map tag_of (net_of history)) ≡ None
unfolding sole_at
closed_none_sole history told op =
    ap (λ (steps : List Record). sole_at op (map tag_of steps)) (sym (append-nil (net_of history)))
    ∙ closed_told history told op []
