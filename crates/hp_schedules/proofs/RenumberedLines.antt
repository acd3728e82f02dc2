-- What lines call after receipts that are the same but for the numbers of operations.
use Rattle.std.proofs.Common.{◌≡◌, ℕ, ◌+◌, ◌-◌, Bool, cond, ltb, List, [], ◌∷◌, ◌++◌, Option, Some, None, refl, ap, sym, ◌∙◌, arith, inl, inr}
use Rattle.std.specs.Prelude.{option_map}
use Rattle.std.specs.Option.{option_map_or}
use Rattle.std.proofs.lemmas.Bool.{cases_Bool}
use Rattle.std.proofs.lemmas.List.{append-nil, append_assoc}
use Rattle.hp_ops.proofs.Receipts.{count_push, left_is, next_push}
use Rattle.hp_units.specs.Driver.{is_migrate, migrate_or_cancel, next_after, next_drain, next_event, tried}
use Rattle.hp_units.specs.declared.events.Event.{Event}
use Rattle.hp_units.specs.declared.events.Event.TheVariants.{Begin, DrainFor, Migrate, Commit}
use Rattle.hp_units.specs.declared.plans.Item.{Item}
use Rattle.hp_units.specs.declared.replies.Receipt.{Receipt}
use Rattle.hp_units.specs.declared.replies.Refusal.TheVariants.{NoFrame, NothingToMove, NotFree}
use Rattle.hp_units.specs.declared.replies.Reply.{Reply}
use Rattle.hp_units.specs.declared.replies.Reply.TheVariants.{Done, Moved, Opened, Refused}
use Rattle.hp_laws.specs.Renumbered.{renumbered_event, renumbered_reply}
use Rattle.hp_laws.proofs.Alike.{unseen_same}
use Rattle.hp_schedules.specs.Continuing.{AreSameReceipts, IsSameReceipt}
use Rattle.hp_schedules.specs.Scripts.{Known, after_line, next_in, work_of}
use Rattle.hp_schedules.specs.declared.scripts.Step.{Step}
use Rattle.hp_schedules.specs.declared.scripts.Step.TheVariants.{Ask, Own, Carry}
use Rattle.hp_schedules.proofs.OneCalls.{skips}
use Rattle.hp_schedules.proofs.Unnumbered.{after_same}

-- ---- a driver

turn_renumbered : (f : ℕ → ℕ) (turns op : ℕ) (rs : List Receipt)
    → renumbered_event f (migrate_or_cancel turns op rs) ≡ migrate_or_cancel turns (f op) rs
turn_renumbered f turns op rs = elim (cases_Bool (ltb (tried rs) turns)) [ inl e ↦ rw e | inr e ↦ rw e ]

drain_renumbered : (f : ℕ → ℕ) (cpus turns op cpu : ℕ) (rs : List Receipt)
    → renumbered_event f (next_drain cpus turns op cpu rs) ≡ next_drain cpus turns (f op) cpu rs
drain_renumbered f cpus turns op cpu rs = grind (arith, cases_Bool, turn_renumbered)

-- what is next after an event and its reply
after_renumbered : (f : ℕ → ℕ) (cpus turns : ℕ) (rs : List Receipt) (e : Event) (reply : Reply)
    → option_map (renumbered_event f) (next_after cpus turns rs e reply)
    ≡ next_after cpus turns rs (renumbered_event f e) (renumbered_reply f reply)
after_renumbered f cpus turns rs (Begin plan) (Opened op) = ap Some (drain_renumbered f cpus turns op 0 rs)
after_renumbered f cpus turns rs (DrainFor op cpu) Done =
    ap Some (drain_renumbered f cpus turns op (cpu + 1) rs)
after_renumbered f cpus turns rs (Migrate op) (Moved from to) = ap Some (turn_renumbered f turns op rs)
after_renumbered f cpus turns rs (Migrate op) (Refused NoFrame) =
    ap Some (drain_renumbered f cpus turns op 0 rs)
after_renumbered f cpus turns rs (Migrate op) (Refused NothingToMove) = refl
after_renumbered f cpus turns rs (Commit op) (Refused (NotFree frame)) =
    ap Some (drain_renumbered f cpus turns op 0 rs)
after_renumbered f cpus turns rs e reply = refl

-- two runs of a plan after which the same is next, and as many migrations are left
pub record GoAlike (p q : ℕ → ℕ) (cpus turns : ℕ) (plan : List Item) (xs ys : List Receipt) : Type 0 where
  pub next : option_map (renumbered_event p) (next_event cpus turns plan xs)
      ≡ option_map (renumbered_event q) (next_event cpus turns plan ys)
  pub left : turns - tried xs ≡ turns - tried ys

-- with the same receipt more they are such runs again
pub alike_push : (p q : ℕ → ℕ) (cpus turns : ℕ) (plan : List Item) (xs ys : List Receipt) (r s : Receipt)
    → IsSameReceipt p q r s → GoAlike p q cpus turns plan xs ys
    → GoAlike p q cpus turns plan (xs ++ r ∷ []) (ys ++ s ∷ [])
alike_push p q cpus turns plan xs ys r s one alike = record {
  next =
      rw (next_push cpus turns plan xs r, next_push cpus turns plan ys s)
      (rw (after_renumbered p cpus turns (xs ++ r ∷ []) r.event r.reply)
      (rw (after_renumbered q cpus turns (ys ++ s ∷ []) s.event s.reply, one.event, one.told)
      (after_same cpus turns (xs ++ r ∷ []) (ys ++ s ∷ [])
      (is_left (xs ++ r ∷ []) ∙ (ap (ltb 0) left ∙ sym (is_left (ys ++ s ∷ []))))
      (renumbered_event q s.event) (renumbered_reply q s.reply))));
  left = left;
}
  where
    migrates : is_migrate r.event ≡ is_migrate s.event
    migrates =
        unseen_same is_migrate (λ op other drained. refl) (λ op other. refl) (λ op other. refl)
        (λ op other. refl) p q r.event s.event one.event

    left : turns - tried (xs ++ r ∷ []) ≡ turns - tried (ys ++ s ∷ [])
    left = omega (arith, count_push xs r, count_push ys s, ap {B = ℕ} (λ (b : Bool). cond b 1 0) migrates)

    is_left : (rs : List Receipt) → ltb (tried rs) turns ≡ ltb 0 (turns - tried rs)
    is_left rs = left_is (tried rs) turns (turns - tried rs) refl (ltb (tried rs) turns) refl

pub alike_later : (p q : ℕ → ℕ) (cpus turns : ℕ) (plan : List Item) (xs ys later others : List Receipt)
    → AreSameReceipts p q later others → GoAlike p q cpus turns plan xs ys
    → GoAlike p q cpus turns plan (xs ++ later) (ys ++ others)
alike_later p q cpus turns plan xs ys [] [] same alike = rw (append-nil xs, append-nil ys) alike
alike_later p q cpus turns plan xs ys (r ∷ rs) (s ∷ ss) same alike =
    rw (← append_assoc xs (r ∷ []) rs, ← append_assoc ys (s ∷ []) ss)
    (alike_later p q cpus turns plan (xs ++ r ∷ []) (ys ++ s ∷ []) rs ss same.1
    (alike_push p q cpus turns plan xs ys r s same.0 alike))
alike_later p q cpus turns plan xs ys later others same alike = absurd same

-- before its first call
pub begin_alike : (p q : ℕ → ℕ) (cpus turns : ℕ) (plan : List Item) → GoAlike p q cpus turns plan [] []
begin_alike p q cpus turns plan = record { next = refl; left = refl }

-- ---- what lines leave of receipts

-- the same receipts are left on both sides, or none on both
abbrev pub AreSameRests : (p q : ℕ → ℕ) → Option (List Receipt) → Option (List Receipt) → Type 0
AreSameRests p q None None = Unit {0}
AreSameRests p q None (Some others) = ⊥
AreSameRests p q (Some rest) None = ⊥
AreSameRests p q (Some rest) (Some others) = AreSameReceipts p q rest others

-- a plan
pub rest_alike : (p q : ℕ → ℕ) (cpus : ℕ) (a b : Known) (turns : ℕ) (plan : List Item)
    (xs ys later others : List Receipt)
    → AreSameReceipts p q later others → GoAlike p q cpus turns plan xs ys
    → AreSameRests p q (after_line cpus a (Carry plan turns) xs later)
    (after_line cpus b (Carry plan turns) ys others)
rest_alike p q cpus a b turns plan xs ys [] [] same alike = by_next _ _ alike.next
  where
    by_next : (o u : Option Event) → option_map (renumbered_event p) o ≡ option_map (renumbered_event q) u
        → AreSameRests p q (option_map_or (λ event. None) o (Some []))
        (option_map_or (λ event. None) u (Some []))
    by_next None None are = tt
    by_next (Some e) (Some d) are = tt
    by_next o u are = absurd cc
rest_alike p q cpus a b turns plan xs ys (r ∷ rs) (s ∷ ss) same alike =
    by_next (next_event cpus turns plan xs) (next_event cpus turns plan ys) alike.next
    (rest_alike p q cpus a b turns plan (xs ++ r ∷ []) (ys ++ s ∷ []) rs ss same.1
    (alike_push p q cpus turns plan xs ys r s same.0 alike))
  where
    by_next : (o u : Option Event) → option_map (renumbered_event p) o ≡ option_map (renumbered_event q) u
        → AreSameRests p q (after_line cpus a (Carry plan turns) (xs ++ r ∷ []) rs)
        (after_line cpus b (Carry plan turns) (ys ++ s ∷ []) ss)
        → AreSameRests p q
        (option_map_or (λ event. after_line cpus a (Carry plan turns) (xs ++ r ∷ []) rs) o (Some (r ∷ rs)))
        (option_map_or (λ event. after_line cpus b (Carry plan turns) (ys ++ s ∷ []) ss) u (Some (s ∷ ss)))
    by_next None None are later = same
    by_next (Some e) (Some d) are later = later
    by_next o u are later = absurd cc
rest_alike p q cpus a b turns plan xs ys later others same alike = absurd same

-- ---- what lines call

-- a line works on the same by the results of both
abbrev pub AgreesBy : (p q : ℕ → ℕ) (a b : Known) → Step → Type 0
AgreesBy p q a b (Ask event) = renumbered_event p event ≡ renumbered_event q event
AgreesBy p q a b (Own work) = renumbered_event p (work_of a work) ≡ renumbered_event q (work_of b work)
AgreesBy p q a b (Carry plan turns) = Unit {0}

abbrev pub AgreeBy : (p q : ℕ → ℕ) (a b : Known) → List Step → Type 0
AgreeBy p q a b [] = Unit {0}
AgreeBy p q a b (line ∷ lines) = AgreesBy p q a b line × AgreeBy p q a b lines

-- by what is left of the receipts by the first of the lines, and what it calls itself
by_rests : (p q : ℕ → ℕ) (cpus : ℕ) (a b : Known) (lines : List Step) (o u : Option (List Receipt))
    (e d : Option Event)
    → AreSameRests p q o u → option_map (renumbered_event p) e ≡ option_map (renumbered_event q) d
    → ((rest others : List Receipt) → AreSameReceipts p q rest others
    → option_map (renumbered_event p) (next_in cpus a lines rest)
    ≡ option_map (renumbered_event q) (next_in cpus b lines others))
    → option_map (renumbered_event p) (option_map_or (λ rest. next_in cpus a lines rest) o e)
    ≡ option_map (renumbered_event q) (option_map_or (λ rest. next_in cpus b lines rest) u d)
by_rests p q cpus a b lines None None e d are calls later = calls
by_rests p q cpus a b lines (Some rest) (Some others) e d are calls later = later rest others are
by_rests p q cpus a b lines o u e d are calls later = absurd are

-- lines whose first one has these receipts already
pub carried_alike : (p q : ℕ → ℕ) (cpus : ℕ) (a b : Known) (turns : ℕ) (plan : List Item) (lines : List Step)
    (xs ys later others : List Receipt)
    → AreSameReceipts p q later others
    → after_line cpus a (Carry plan turns) [] (xs ++ later) ≡ after_line cpus a (Carry plan turns) xs later
    → after_line cpus b (Carry plan turns) [] (ys ++ others) ≡ after_line cpus b (Carry plan turns) ys others
    → GoAlike p q cpus turns plan xs ys
    → ((rest left : List Receipt) → AreSameReceipts p q rest left
    → option_map (renumbered_event p) (next_in cpus a lines rest)
    ≡ option_map (renumbered_event q) (next_in cpus b lines left))
    → option_map (renumbered_event p) (next_in cpus a (Carry plan turns ∷ lines) (xs ++ later))
    ≡ option_map (renumbered_event q) (next_in cpus b (Carry plan turns ∷ lines) (ys ++ others))
carried_alike p q cpus a b turns plan lines xs ys later others same first second alike on =
    by_rests p q cpus a b lines (after_line cpus a (Carry plan turns) [] (xs ++ later))
    (after_line cpus b (Carry plan turns) [] (ys ++ others))
    (next_event cpus turns plan (xs ++ later)) (next_event cpus turns plan (ys ++ others))
    (rw (first, second) (rest_alike p q cpus a b turns plan xs ys later others same alike))
    (alike_later p q cpus turns plan xs ys later others same alike).next on

-- lines from their beginning
pub next_alike : (p q : ℕ → ℕ) (cpus : ℕ) (a b : Known) (lines : List Step) (xs ys : List Receipt)
    → AgreeBy p q a b lines → AreSameReceipts p q xs ys
    → option_map (renumbered_event p) (next_in cpus a lines xs)
    ≡ option_map (renumbered_event q) (next_in cpus b lines ys)
next_alike p q cpus a b [] xs ys agree same = refl
next_alike p q cpus a b (Carry plan turns ∷ lines) xs ys agree same =
    carried_alike p q cpus a b turns plan lines [] [] xs ys same refl refl
    (begin_alike p q cpus turns plan)
    (λ rest left are. next_alike p q cpus a b lines rest left agree.1 are)
next_alike p q cpus a b (line ∷ lines) [] [] agree same = ap Some agree.0
next_alike p q cpus a b (line ∷ lines) (r ∷ xs) (s ∷ ys) agree same =
    rw (skips cpus a line lines r xs refl, skips cpus b line lines s ys refl)
    (next_alike p q cpus a b lines xs ys agree.1 same.1)
next_alike p q cpus a b lines xs ys agree same = absurd same
