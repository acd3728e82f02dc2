-- One record more after nets that lead to the same states but for the numbers of operations.
use Rattle.std.proofs.Common.{◌≡◌, ℕ, true, eqb, List, [], ◌∷◌, ◌++◌, map, take, Option, Some, None, refl, ap, sym, ◌∙◌, inl, inr, arith}
use Rattle.std.proofs.lemmas.Bool.{cases_Bool}
use Rattle.hp_units.specs.History.{Effect, Looks, Cancels, Acts, cancel_reply, cut_or_add, effect_of, is_refused, net_with, net_with_effect, run}
use Rattle.hp_units.specs.LayoutParts.{LayoutParts}
use Rattle.hp_units.specs.Marks.{sole_at, tag_of}
use Rattle.hp_units.specs.Memory.{Memory}
use Rattle.hp_units.specs.Receipts.{receipt_of}
use Rattle.hp_units.specs.declared.events.Event.{Event}
use Rattle.hp_units.specs.declared.events.Event.TheVariants.{KernelAlloc}
use Rattle.hp_units.specs.declared.replies.Record.{Record}
use Rattle.hp_units.specs.declared.replies.Reply.{Reply}
use Rattle.hp_laws.proofs.Net.{run-push}
use Rattle.hp_laws.proofs.Records.{with_good}
use Rattle.hp_laws.proofs.Replays.{net_bad}
use Rattle.hp_laws.specs.Renumbered.{IsOneToOne, renumbered, renumbered_event}
use Rattle.hp_laws.proofs.Alike.{effect_same, renumbered_effect, steps_same}
use Rattle.hp_laws.proofs.RenumberedRows.{number_same}
use Rattle.hp_schedules.specs.Alike.{leaves_steps}
use Rattle.hp_schedules.specs.Continuing.{AreJoinedBy, IsSameReceipt}
use Rattle.hp_schedules.specs.Openings.{AreOpen, Opening, after_cancel, after_work, change_by, change_of, renumbered_change, renumbered_opening}
use Rattle.hp_schedules.specs.declared.changes.Change.{Change}
use Rattle.hp_schedules.specs.declared.changes.Change.TheVariants.{Works, Cancels as Cancelled}
use Rattle.hp_schedules.proofs.Opened.{open_more}
use Rattle.hp_schedules.proofs.Openings.{changed, openings_after}

-- ---- the same records

-- two records that are the same, if operations get other numbers by `p` and by `q`
pub record IsSameRecord (p q : ℕ → ℕ) (r s : Record) : Type 0 where
  pub serial : r.serial ≡ s.serial
  pub cpu : r.cpu ≡ s.cpu
  pub receipt : IsSameReceipt p q (receipt_of r) (receipt_of s)

-- two numbers are equal exactly if their counterparts are
pub numbers_same : (p q : ℕ → ℕ) → IsOneToOne p → IsOneToOne q → (a b c d : ℕ) → p a ≡ q c → p b ≡ q d
    → eqb a b ≡ eqb c d
numbers_same p q p_one q_one a b c d first second =
    rw (← number_same p p_one a b, first, second, number_same q q_one c d)

-- ---- what is open

change_by_same : (f : ℕ → ℕ) (e : Event)
    → change_by (renumbered_event f e) ≡ renumbered_change f (change_by e)
change_by_same f (KernelAlloc order) = refl
change_by_same f e = refl

-- how a record changes what is open
changes_same : (p q : ℕ → ℕ) (r s : Record) → IsSameRecord p q r s
    → renumbered_change p (change_of r) ≡ renumbered_change q (change_of s)
changes_same p q r s same =
    grind (arith, cases_Bool, change_by_same, same.receipt.reply, same.receipt.event)

pub work_same : (f : ℕ → ℕ) → IsOneToOne f → (op : ℕ) (os : List Opening)
    → map (renumbered_opening f) (after_work op os) ≡ after_work (f op) (map (renumbered_opening f) os)
work_same f one op [] = refl
work_same f one op (o ∷ os) = grind (arith, cases_Bool, number_same f one)

pub cancel_same : (f : ℕ → ℕ) → IsOneToOne f → (op : ℕ) (os : List Opening)
    → map (renumbered_opening f) (after_cancel op os) ≡ after_cancel (f op) (map (renumbered_opening f) os)
cancel_same f one op [] = refl
cancel_same f one op (o ∷ os) = grind (arith, cases_Bool, number_same f one)

changed_same : (f : ℕ → ℕ) → IsOneToOne f → (here : Memory) (serial : ℕ) (os : List Opening) (c : Change)
    → map (renumbered_opening f) (changed here serial os c)
    ≡ changed (renumbered f here) (f serial) (map (renumbered_opening f) os) (renumbered_change f c)
changed_same f one here serial os (Works op) = work_same f one op os
changed_same f one here serial os (Cancelled op) = cancel_same f one op os
changed_same f one here serial os c = refl

-- ---- where an operation is sole

module _ (p q : ℕ → ℕ) (p_one : IsOneToOne p) (q_one : IsOneToOne q) (l : LayoutParts) (base : Memory)
    (a b : List Record) where
  -- the places of a sole operation on both sides: none, or two that the same states lead up to
  abbrev ArePlaces : Option ℕ → Option ℕ → Type 0
  ArePlaces None None = Unit {0}
  ArePlaces None (Some j) = ⊥
  ArePlaces (Some i) None = ⊥
  ArePlaces (Some i) (Some j) = renumbered p (run l base (take i a)) ≡ renumbered q (run l base (take j b))

  sole_places : (x y : ℕ) → AreJoinedBy p q l base a b → p x ≡ q y
      → ArePlaces (sole_at x (map tag_of a)) (sole_at y (map tag_of b))
  sole_places x y j same =
      by_openings j.first_openings j.second_openings j.first_open j.second_open j.openings
    where
      by_openings : (os us : List Opening) → AreOpen l base a os → AreOpen l base b us
          → map (renumbered_opening p) os ≡ map (renumbered_opening q) us
          → ArePlaces (sole_at x (map tag_of a)) (sole_at y (map tag_of b))
      by_openings [] [] first second are = rw (first x, second y) tt
      by_openings (o ∷ os) (u ∷ us) first second are =
          rw (first.1 x, second.1 y, ← numbers_same p q p_one q_one o.op x u.op y op same)
          (elim (cases_Bool (eqb o.op x)) [ inl e ↦ rw e places | inr e ↦ rw e tt ])
        where
          here : renumbered_opening p o ≡ renumbered_opening q u
          here = cc

          op : p o.op ≡ q u.op
          op = ap (λ (s : Opening). s.op) here

          places : renumbered p (run l base (take first.0 a)) ≡ renumbered q (run l base (take second.0 b))
          places = rw (← first.2, ← second.2) (ap (λ (s : Opening). s.memory) here)
      by_openings os us first second are = absurd cc

  -- a Cancel has the same reply
  pub cancelled_same : (x y : ℕ) (reply : Reply) → AreJoinedBy p q l base a b → p x ≡ q y
      → cancel_reply reply (sole_at x (map tag_of a)) ≡ cancel_reply reply (sole_at y (map tag_of b))
  cancelled_same x y reply j same =
      by_places (sole_at x (map tag_of a)) (sole_at y (map tag_of b)) (sole_places x y j same)
    where
      by_places : (o u : Option ℕ) → ArePlaces o u → cancel_reply reply o ≡ cancel_reply reply u
      by_places None None are = refl
      by_places (Some m) (Some n) are = refl
      by_places o u are = absurd are

  -- ---- one record more

  pushed_same : (r s : Record) → IsSameRecord p q r s
      → renumbered p (run l base a) ≡ renumbered q (run l base b)
      → renumbered p (run l base (a ++ r ∷ [])) ≡ renumbered q (run l base (b ++ s ∷ []))
  pushed_same r s same state =
      rw (run-push l base a r, run-push l base b s, ← same.serial, ← same.cpu)
      (steps_same p q p_one q_one l (run l base a) (run l base b) r.serial r.cpu r.event s.event
      (same.receipt.number ∙ ap q (sym same.serial)) state same.receipt.event).memory

  cut_same : (r s : Record) (x y : ℕ) → IsSameRecord p q r s → AreJoinedBy p q l base a b → p x ≡ q y
      → renumbered p (run l base (cut_or_add a r (sole_at x (map tag_of a))))
      ≡ renumbered q (run l base (cut_or_add b s (sole_at y (map tag_of b))))
  cut_same r s x y same j op =
      by_places (sole_at x (map tag_of a)) (sole_at y (map tag_of b)) (sole_places x y j op)
    where
      by_places : (o u : Option ℕ) → ArePlaces o u
          → renumbered p (run l base (cut_or_add a r o)) ≡ renumbered q (run l base (cut_or_add b s u))
      by_places None None are = pushed_same r s same j.state
      by_places (Some m) (Some n) are = are
      by_places o u are = absurd are

  -- one record more on both sides
  pub joined_more : (r s : Record) → IsSameRecord p q r s
      → leaves_steps (effect_of r.event) ≡ true → leaves_steps (effect_of s.event) ≡ true
      → AreJoinedBy p q l base a b → AreJoinedBy p q l base (net_with a r) (net_with b s)
  joined_more r s same leaves other_leaves j = record {
    first_openings = openings_after (run l base a) j.first_openings r;
    second_openings = openings_after (run l base b) j.second_openings s;
    first_open = open_more l base a j.first_openings r leaves j.first_open;
    second_open = open_more l base b j.second_openings s other_leaves j.second_open;
    openings =
        rw (changed_same p p_one (run l base a) r.serial j.first_openings (change_of r))
        (rw (changed_same q q_one (run l base b) s.serial j.second_openings (change_of s))
        (rw (j.state, same.receipt.number, j.openings, changes_same p q r s same)));
    state = elim (cases_Bool (is_refused r.reply)) [
      | inl is ↦ rw (← net_bad a r is, ← net_bad b s (rw (← same.receipt.reply) is)) j.state
      | inr is ↦ rw (with_good a r is, with_good b s (rw (← same.receipt.reply) is))
          (by_effect (effect_of r.event) (effect_of s.event) effects leaves other_leaves)
    ];
  }
    where
      effects : renumbered_effect p (effect_of r.event) ≡ renumbered_effect q (effect_of s.event)
      effects = sym (effect_same p r.event) ∙ (ap effect_of same.receipt.event ∙ effect_same q s.event)

      by_effect : (e d : Effect) → renumbered_effect p e ≡ renumbered_effect q d
          → leaves_steps e ≡ true → leaves_steps d ≡ true
          → renumbered p (run l base (net_with_effect a r e))
          ≡ renumbered q (run l base (net_with_effect b s d))
      by_effect Looks Looks are is of = j.state
      by_effect (Cancels x) (Cancels y) are is of = let op : p x ≡ q y = cc in cut_same r s x y same j op
      by_effect Acts Acts are is of = pushed_same r s same j.state
      by_effect e d are is of = absurd cc
