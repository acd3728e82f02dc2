-- What a record of a legal history that isn't refused says: it goes back to an earlier state, or it
-- is a step.
use Rattle.std.proofs.lemmas.List.Sums.{count_by-le-length, length-filter}
use Rattle.std.proofs.Common.{◌≡◌, ℕ, ◌+◌, ◌≤◌, List, [], ◌∷◌, ◌++◌, length, take, map, Bool, true, false, cond, Option, Some, None, slice_get, refl, ap, sym, subst, ◌∙◌, arith, ◌⊎◌, inl, inr}
use Rattle.std.specs.Prelude.{nat_lt, nat_le}
use Rattle.std.proofs.lemmas.Bool.{both_ways, cases_Bool}
use Rattle.std.proofs.lemmas.List.{take_all, take-take, take-append-le, length_push, length-take}
use Rattle.std.proofs.lemmas.Option.{slice_get_within}
use Rattle.hp_units.specs.LayoutParts.{LayoutParts}
use Rattle.hp_units.specs.Memory.{Memory}
use Rattle.hp_units.specs.Marks.{sole_at, tag_of}
use Rattle.hp_units.specs.History.{Acts, Cancels, Effect, Follows, IsLegal, Looks, Undoes, cancel_reply, count_above, cut_or_add, effect_of, effect_reply, goes_back, is_refused, net_of, net_with, net_with_effect, reply_of, run, undo_reply, value_of, steps_until}
use Rattle.hp_units.specs.Step.{step}
use Rattle.hp_laws.proofs.Names.{Record, Reply, Refusal, NoCpu, Gone, Refused, Restored, Undone}
use Rattle.hp_laws.proofs.Lists.{get_push_cases, get_take}
use Rattle.hp_laws.proofs.Net.{legal_all, legal_push, net-push, run-push}
use Rattle.hp_laws.proofs.Undo.{net_cases}
use Rattle.hp_laws.proofs.Earlier.{numbered_net}
use Rattle.hp_laws.proofs.Steps.{steps}

-- the record has the step's reply, and the state after it is the one after the step
pub record IsStep (l : LayoutParts) (base : Memory) (h : List Record) (r : Record) : Type 0 where
  pub reply : r.reply ≡ (step l (value_of l base h) r.serial r.cpu r.event).reply
  pub memory : value_of l base (h ++ r ∷ []) ≡ (step l (value_of l base h) r.serial r.cpu r.event).memory

-- the net with a record that isn't refused
pub with_good : (n : List Record) (r : Record) → is_refused r.reply ≡ false
    → net_with n r ≡ net_with_effect n r (effect_of r.event)
unfolding net_with
with_good n r good = rw good

-- the state after one record more, by the net with it
value-push : (l : LayoutParts) (base : Memory) (h : List Record) (r : Record)
    → value_of l base (h ++ r ∷ []) ≡ run l base (net_with (net_of h) r)
unfolding value_of
value-push l base h r = rw (net-push h r)

-- a record that is added to the net is a step
added_memory : (l : LayoutParts) (base : Memory) (h : List Record) (r : Record)
    → net_with (net_of h) r ≡ net_of h ++ r ∷ []
    → value_of l base (h ++ r ∷ []) ≡ (step l (value_of l base h) r.serial r.cpu r.event).memory
unfolding value_of
added_memory l base h r adds = rw (net-push h r, adds, run-push l base _ r)

-- an undo that isn't refused goes back
undo_back : (l : LayoutParts) (before last kept cpu : ℕ) (n : List Record) (reply : Reply)
    → is_refused reply ≡ false
    → reply ≡ cond (nat_lt cpu l.cpus) (undo_reply before last n kept) (Refused NoCpu)
    → goes_back reply ≡ true
undo_back l before last kept cpu n reply good e = by_cpu _ e
  where
    refused : (refusal : Refusal) → reply ≡ Refused refusal → goes_back reply ≡ true
    refused refusal f = absurd (both_ways (is_refused reply) good (rw f))

    by_range : (b : Bool) → reply ≡ cond b (Refused Gone) (Undone (count_above kept n))
        → goes_back reply ≡ true
    by_range true f = refused Gone f
    by_range false f = rw f

    by_cpu : (b : Bool) → reply ≡ cond b (undo_reply before last n kept) (Refused NoCpu)
        → goes_back reply ≡ true
    by_cpu true f = by_range _ f
    by_cpu false f = refused NoCpu f

by_effect : (l : LayoutParts) (base : Memory) (before : ℕ) (h : List Record) (r : Record) (effect : Effect)
    → is_refused r.reply ≡ false → effect_of r.event ≡ effect
    → r.reply
    ≡ effect_reply l before (before + length h) (net_of h) (value_of l base h) r.serial r.cpu r.event effect
    → net_with (net_of h) r ≡ net_with_effect (net_of h) r effect
    → (goes_back r.reply ≡ true) ⊎ IsStep l base h r
unfolding value_of
by_effect l base before h r Looks good is reply nets = inr (record {
  reply = reply;
  memory = rw (value-push l base h r, nets) (sym ((steps l _ _ r.cpu r.event).looks is));
})
by_effect l base before h r (Undoes kept) good is reply nets =
    inl (undo_back l before _ kept r.cpu _ _ good reply)
by_effect l base before h r (Cancels op) good is reply nets =
    by_place (sole_at op (map tag_of (net_of h))) reply nets
  where
    restores : (b : Bool) → is_refused (step l (value_of l base h) r.serial r.cpu r.event).reply ≡ b
        → r.reply ≡ cond b (step l (value_of l base h) r.serial r.cpu r.event).reply Restored
        → goes_back r.reply ≡ true
    restores true bad e = absurd (both_ways (is_refused r.reply) good (rw (e, bad)))
    restores false bad e = rw e

    by_place : (o : Option ℕ)
        → r.reply ≡ cancel_reply (step l (value_of l base h) r.serial r.cpu r.event).reply o
        → net_with (net_of h) r ≡ cut_or_add (net_of h) r o
        → (goes_back r.reply ≡ true) ⊎ IsStep l base h r
    by_place None e f = inr (record { reply = e; memory = added_memory l base h r f })
    by_place (Some place) e f = inl (restores _ refl e)
by_effect l base before h r Acts good is reply nets =
    inr (record { reply = reply; memory = added_memory l base h r nets })

-- the reply of a record, at its own serial
pub reply_at : (l : LayoutParts) (base : Memory) (before : ℕ) (h : List Record) (r : Record)
    → Follows l base before h r
    → r.reply ≡ effect_reply l before (before + length h) (net_of h) (value_of l base h) r.serial r.cpu
    r.event (effect_of r.event)
unfolding reply_of
reply_at l base before h r follows = rw (follows.reply, ← follows.serial)

-- a record that isn't refused goes back to an earlier state, or is a step
pub record_cases : (l : LayoutParts) (base : Memory) (before : ℕ) (h : List Record) (r : Record)
    → Follows l base before h r → is_refused r.reply ≡ false
    → (goes_back r.reply ≡ true) ⊎ IsStep l base h r
record_cases l base before h r follows good =
    by_effect l base before h r _ good refl (reply_at l base before h r follows)
    (with_good _ r good)

-- ---- what is added to the net was not refused

shorter : (n xs : List Record) (r : Record) → xs ≡ n ++ r ∷ [] → length xs ≤ length n → ⊥
shorter n xs r e h = absurd (omega (arith, length_push n r, ap (λ (ys : List Record). length ys) e))

until_shorter : (serial : ℕ) (n : List Record) → length (steps_until serial n) ≤ length n
unfolding steps_until
until_shorter serial n =
    omega (
      arith,
      length-filter (λ (x : Record). nat_le x.serial serial) n,
      count_by-le-length (λ (x : Record). nat_le x.serial serial) n,
    )

same_effect : (l : LayoutParts) (base : Memory) (before : ℕ) (g : List Record) (r : Record)
    → is_refused r.reply ≡ false
    → r.reply ≡ effect_reply l before (before + length g) (net_of g) (value_of l base g) r.serial r.cpu
    r.event (effect_of r.event)
    → net_with_effect (net_of g) r (effect_of r.event) ≡ net_of g ++ r ∷ []
    → is_refused (step l (value_of l base g) r.serial r.cpu r.event).reply ≡ false
same_effect l base before g r good reply adds = by_effect _ reply adds
  where
    by_place : (o : Option ℕ)
        → r.reply ≡ cancel_reply (step l (value_of l base g) r.serial r.cpu r.event).reply o
        → cut_or_add (net_of g) r o ≡ net_of g ++ r ∷ []
        → is_refused (step l (value_of l base g) r.serial r.cpu r.event).reply ≡ false
    by_place None e f = rw (← e, good)
    by_place (Some k) e f = absurd (shorter _ _ r f (omega (arith, length-take k (net_of g))))

    by_effect : (kind : Effect)
        → r.reply ≡ effect_reply l before (before + length g) (net_of g) (value_of l base g) r.serial r.cpu
        r.event kind
        → net_with_effect (net_of g) r kind ≡ net_of g ++ r ∷ []
        → is_refused (step l (value_of l base g) r.serial r.cpu r.event).reply ≡ false
    by_effect Looks e f = absurd (shorter _ _ r f (omega arith))
    by_effect (Undoes serial) e f = absurd (shorter _ _ r f (until_shorter serial _))
    by_effect (Cancels op) e f = by_place (sole_at op (map tag_of (net_of g))) e f
    by_effect Acts e f = rw (← e, good)

added_good : (l : LayoutParts) (base : Memory) (before : ℕ) (g : List Record) (r : Record)
    → Follows l base before g r → net_with (net_of g) r ≡ net_of g ++ r ∷ []
    → is_refused (step l (value_of l base g) r.serial r.cpu r.event).reply ≡ false
unfolding net_with reply_of
added_good l base before g r follows adds = elim (cases_Bool (is_refused r.reply)) [
  | inl e ↦ absurd (shorter _ _ r (rw e at adds) (omega arith))
  | inr e ↦ same_effect l base before g r e (rw (follows.reply, ← follows.serial)) (rw e at adds)
]

-- ---- no step of the net was refused

-- each step succeeds in the state that those before it lead to
abbrev pub AllGood : LayoutParts → Memory → List Record → Type 0
AllGood l base n =
    (i : ℕ) (r : Record) → slice_get n i ≡ Some r
    → is_refused (step l (run l base (take i n)) r.serial r.cpu r.event).reply ≡ false

good_take : (l : LayoutParts) (base : Memory) (k : ℕ) (n : List Record) → AllGood l base n
    → AllGood l base (take k n)
good_take l base k n h i r e =
    let at = get_take k n r i e in
    let le : i ≤ k = omega (arith, at.0) in
    rw (take-take i k n le) (h i r at.1)

good_push : (l : LayoutParts) (base : Memory) (n : List Record) (r : Record) → AllGood l base n
    → is_refused (step l (run l base n) r.serial r.cpu r.event).reply ≡ false → AllGood l base (n ++ r ∷ [])
good_push l base n r h good i x e = elim (get_push_cases n r x i e) [
  | inl at ↦
      let le : i ≤ length n = omega (arith, slice_get_within n i x at) in
      rw (take-append-le i n (r ∷ []) le) (h i x at)
  | inr at ↦
      let le : i ≤ length n = omega (arith, at.0) in
      rw (take-append-le i n (r ∷ []) le ∙ take_all i n (omega (arith, at.0)), ← at.1) good
]

record IsSound (l : LayoutParts) (base : Memory) (before : ℕ) (g : List Record) : Type 0 where
  pub legal : IsLegal l base before g
  pub good : AllGood l base (net_of g)

sound_more : (l : LayoutParts) (base : Memory) (before : ℕ) (g : List Record) (r : Record)
    → Follows l base before g r → IsSound l base before g → IsSound l base before (g ++ r ∷ [])
unfolding value_of
sound_more l base before g r follows h = record {
  legal = legal_push l base before g r h.legal follows;
  good = subst (AllGood l base) (sym (net-push g r))
      (elim (net_cases before _ _ r (numbered_net l base before g h.legal)) [
        | inl cut ↦ subst (AllGood l base) (sym cut.2) (good_take l base cut.0 _ h.good)
        | inr adds ↦ rw adds (good_push l base _ r h.good (added_good l base before g r follows adds))
      ]);
}

none_sound : (l : LayoutParts) (base : Memory) (before : ℕ) → IsSound l base before []
unfolding net_of
none_sound l base before = record { legal = λ n r e. absurd cc; good = λ i r e. absurd cc }

-- each step of the net of a legal history succeeds
pub net_good : (l : LayoutParts) (base : Memory) (before : ℕ) (h : List Record) → IsLegal l base before h
    → AllGood l base (net_of h)
net_good l base before h legal =
    (legal_all l base before _ (none_sound l base before) (sound_more l base before) h legal).good
