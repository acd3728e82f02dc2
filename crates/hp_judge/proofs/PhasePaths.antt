-- The events of a memory block between two phases lead from the one to the other, turn by turn.
use Rattle.std.proofs.Common.{◌≡◌, ◌≢◌, ℕ, ◌<◌, Bool, true, false, not, cond, ◌&&◌, ◌||◌, eqb, List, [], ◌∷◌, ◌++◌, unwrap_or, refl, sym, ◌∙◌, ap, subst, inl, inr}
use Rattle.std.specs.Bool.{then_some}
use Rattle.std.specs.List.{list_any}
use Rattle.std.proofs.lemmas.Bool.{cases_eq, and_parts, or_left, or_right, eqb-true, eq-eqb, ne_eqb, both_ways, cond-true, cond-false, lt-ltb, cases_Bool}
use mathlib.Core.Path.{fun_ext}
use Rattle.hp_judge.specs.Events.{block_of, is_of, leaves_offline}
use Rattle.hp_judge.specs.LawfulNames.{LogEvent, MachineSize, Zone, NormalZone, MovableZone}
use Rattle.hp_judge.specs.Phases.{BlockPhase, Offline, GoingOnline, Online, GoingOffline, same_zone, to_offline, from_offline, phase_events}
use Rattle.hp_judge.proofs.Turns.{IsTurn, begins, comes, fails, leaves, goes, remains, turn-of, turn-allocates, turn-unmovable, turn-frees, turn-well_formed}
use Rattle.hp_judge.proofs.Allowed.{Leads}
use Rattle.hp_judge.proofs.Sequences.{EventsLead, as_shown}

-- the events take block b from one phase to another
abbrev pub Take : ℕ → BlockPhase → List LogEvent → BlockPhase → Type 0
Take b p [] q = p ≡ q
Take b p (e ∷ es) q = (r : BlockPhase) × IsTurn b p e r × Take b r es q

take-append : (b : ℕ) (p q r : BlockPhase) (xs ys : List LogEvent) → Take b p xs q → Take b q ys r
    → Take b p (xs ++ ys) r
take-append b p q r [] ys h k = rw h k
take-append b p q r (x ∷ xs) ys h k = (h.0, h.1, take-append b h.0 q r xs ys h.2 k)

-- ---- from each phase to each other

take_down : (b : ℕ) (p : BlockPhase) → Take b p (to_offline b p) Offline
take_down b Offline = refl
take_down b (GoingOnline z) = (Offline, fails, refl)
take_down b (Online z) = (GoingOffline z, leaves, (Offline, goes, refl))
take_down b (GoingOffline z) = (Offline, goes, refl)

take_up : (b : ℕ) (p : BlockPhase) → Take b Offline (from_offline b p) p
take_up b Offline = refl
take_up b (GoingOnline z) = (GoingOnline z, begins, refl)
take_up b (Online z) = (GoingOnline z, begins, (Online z, comes, refl))
take_up b (GoingOffline z) = (GoingOnline z, begins, (Online z, comes, (GoingOffline z, leaves, refl)))

take_through : (b : ℕ) (p q : BlockPhase) → Take b p (to_offline b p ++ from_offline b q) q
take_through b p q = take-append b p Offline q _ _ (take_down b p) (take_up b q)

same_zone-is : (z y : Zone) → same_zone z y ≡ true → z ≡ y
same_zone-is NormalZone NormalZone e = refl
same_zone-is MovableZone MovableZone e = refl
same_zone-is _ _ e = cc

-- by whether the zones are one
by_zone : (b : ℕ) (p q : BlockPhase) (xs : List LogEvent) (z y : Zone) → (z ≡ y → Take b p xs q)
    → Take b p (unwrap_or (then_some (same_zone z y) xs) (to_offline b p ++ from_offline b q)) q
by_zone b p q xs z y same = elim (cases_Bool (same_zone z y)) [
  | inl is ↦ rw is (same (same_zone-is z y is))
  | inr is ↦ rw is (take_through b p q)
]

pub take_phase : (b : ℕ) (p q : BlockPhase) → Take b p (phase_events b p q) q
take_phase b (GoingOnline z) (GoingOnline y) = by_zone b _ _ [] z y (λ e. ap (λ (x : Zone). GoingOnline x) e)
take_phase b (GoingOnline z) (Online y) =
    by_zone b _ _ _ z y (λ e. (Online z, comes, ap (λ (x : Zone). Online x) e))
take_phase b (Online z) (Online y) = by_zone b _ _ [] z y (λ e. ap (λ (x : Zone). Online x) e)
take_phase b (Online z) (GoingOffline y) =
    by_zone b _ _ _ z y (λ e. (GoingOffline z, leaves, ap (λ (x : Zone). GoingOffline x) e))
take_phase b (GoingOffline z) (Online y) =
    by_zone b _ _ _ z y (λ e. (Online z, remains, ap (λ (x : Zone). Online x) e))
take_phase b (GoingOffline z) (GoingOffline y) =
    by_zone b _ _ [] z y (λ e. ap (λ (x : Zone). GoingOffline x) e)
take_phase b p q = take_through b p q

-- ---- the events lead on, if no frame of the block is in use when it goes offline

-- the phases, with another for one block
abbrev at : ℕ → BlockPhase → (ℕ → BlockPhase) → ℕ → BlockPhase
at b p phase k = cond (eqb k b) p (phase k)

at_here : (b : ℕ) (p : BlockPhase) (phase : ℕ → BlockPhase) (k : ℕ) → k ≡ b → at b p phase k ≡ p
at_here b p phase k e = cond-true (eqb k b) p (phase k) (eq-eqb k b e)

at_other : (b : ℕ) (p : BlockPhase) (phase : ℕ → BlockPhase) (k : ℕ) → k ≢ b → at b p phase k ≡ phase k
at_other b p phase k ne = cond-false (eqb k b) p (phase k) (ne_eqb k b ne)

kept_used : (a g u : Bool) → a ≡ false → g ≡ false → u ≡ (a || (not g && u))
kept_used false false u e f = refl
kept_used _ _ u e f = absurd cc

pub turns_lead : (m : MachineSize) (b : ℕ) (used : ℕ → Bool) (es : List LogEvent) (p q : BlockPhase)
    (phase phase' : ℕ → BlockPhase) → Take b p es q → phase b ≡ p → phase' b ≡ q
    → ((k : ℕ) → k ≢ b → phase' k ≡ phase k) → b < m.blocks
    → ((f : ℕ) → block_of m f ≡ b → list_any leaves_offline es ≡ true → used f ≡ false)
    → EventsLead m (as_shown used phase) es (as_shown used phase')
turns_lead m b used [] p q phase phase' h from to others low empty = rw (fun_ext same)
  where
    same : (k : ℕ) → phase k ≡ phase' k
    same k = elim (cases_eq k b) [
      | inl e ↦ rw (e, from, h, ← to, ← e)
      | inr ne ↦ sym (others k ne)
    ]
turns_lead m b used (e ∷ es) p q phase phase' h from to others low empty = (
  as_shown used (at b h.0 phase),
  leads,
  turns_lead m b used es h.0 q _ phase' h.2 (at_here b h.0 phase b refl) to
      (λ k ne. others k ne ∙ sym (at_other b h.0 phase k ne)) low
      (λ f of later. empty f of (or_right _ _ later)),
)
  where
    no_event : {A : Type 0} {t : Bool} → t ≡ false → t ≡ true → A
    no_event {A} {t} e f = absurd (both_ways t e f)

    block_is : (k : ℕ) → is_of k e ≡ true → k ≡ b
    block_is k of = sym (eqb-true b k (sym (turn-of h.1 k) ∙ of))

    taken : (k : ℕ) → k ≡ b → IsTurn k (phase k) e (at b h.0 phase k)
    taken k same =
        rw (at_here b h.0 phase k same) (subst (λ (j : ℕ). IsTurn j (phase j) e h.0) (sym same)
        (subst (λ (r : BlockPhase). IsTurn b r e h.0) (sym from) h.1))

    other : (k : ℕ) → is_of k e ≡ false → k ≢ b
    other k not same =
        both_ways (is_of k e) not (turn-of h.1 k ∙ eq-eqb b k (sym same))

    leads : Leads m used phase e used (at b h.0 phase)
    leads = record {
      well_formed = turn-well_formed m h.1 ∙ lt-ltb b m.blocks low;
      free = λ f is. no_event (turn-allocates m f h.1) is;
      present = λ f is. no_event (turn-allocates m f h.1) is;
      normal = λ f is. no_event (turn-unmovable m f h.1) is;
      in_use = λ f is. no_event (turn-frees m f h.1) is;
      empty =
          λ f is. (let parts = and_parts (is_of (block_of m f) e) (leaves_offline e) is in
          empty f (block_is (block_of m f) parts.0)
          (or_left (leaves_offline e) (list_any leaves_offline es) parts.1));
      used_is =
          λ f. kept_used _ _ _ (turn-allocates m f h.1)
          (turn-frees m f h.1);
      turn = λ k of. taken k (block_is k of);
      same = λ k not. at_other b h.0 phase k (other k not);
    }
