-- A driver has begun after its first receipt, and not before.
use Rattle.std.proofs.Common.{◌≡◌, ℕ, ◌+◌, Bool, true, false, ltb, List, [], ◌∷◌, ◌++◌, Option, Some, None, refl, ap, sym, ◌∙◌, ◌⊎◌, inl, inr, arith}
use Rattle.std.proofs.lemmas.Bool.{cases_Bool}
use Rattle.hp_ops.specs.Stages.{IsAfter, event_in, has_begun, is_over}
use Rattle.hp_ops.specs.declared.stages.Driver.{Driver}
use Rattle.hp_ops.specs.declared.stages.Stage.{Stage}
use Rattle.hp_ops.specs.declared.stages.Stage.TheVariants.{Begin as Begins, Ended}
use Rattle.hp_ops.proofs.Receipts.{next_push}
use Rattle.hp_units.specs.Driver.{migrate_or_cancel, next_after, next_drain, next_event, tried}
use Rattle.hp_units.specs.declared.events.Event.{Event}
use Rattle.hp_units.specs.declared.events.Event.TheVariants.{Begin, DrainFor, Migrate, Commit, Cancel, KernelFree}
use Rattle.hp_units.specs.declared.plans.Item.{Item}
use Rattle.hp_units.specs.declared.replies.Receipt.{Receipt}
use Rattle.hp_units.specs.declared.replies.Refusal.TheVariants.{NoFrame, NothingToMove, NotFree}
use Rattle.hp_units.specs.declared.replies.Reply.{Reply}
use Rattle.hp_units.specs.declared.replies.Reply.TheVariants.{Done, Moved, Opened, Refused}

-- ---- lists with one more at the end

pub record IsPush {A : Type 0} (xs : List A) : Type 0 where
  pub front : List A
  pub last : A
  pub list_is : xs ≡ front ++ last ∷ []

pub push_cases : {A : Type 0} (xs : List A) → (xs ≡ []) ⊎ IsPush xs
push_cases [] = inl refl
push_cases (x ∷ xs) = elim (push_cases xs) [
  | inl e ↦ inr (record { front = []; last = x; list_is = ap (λ ys. x ∷ ys) e })
  | inr p ↦ inr (record { front = x ∷ p.front; last = p.last; list_is = ap (λ ys. x ∷ ys) p.list_is })
]

-- ---- after its first call a driver only works

-- work on an operation or a free
abbrev pub is_work : Event → Bool
is_work (DrainFor op cpu) = true
is_work (Migrate op) = true
is_work (Commit op) = true
is_work (Cancel op) = true
is_work (KernelFree frame) = true
is_work event = false

abbrev pub all_work : Option Event → Bool
all_work None = true
all_work (Some event) = is_work event

turn_works : (turns op : ℕ) (rs : List Receipt) → is_work (migrate_or_cancel turns op rs) ≡ true
turn_works turns op rs = elim (cases_Bool (ltb (tried rs) turns)) [ inl e ↦ rw e | inr e ↦ rw e ]

drain_works : (cpus turns op cpu : ℕ) (rs : List Receipt) → is_work (next_drain cpus turns op cpu rs) ≡ true
drain_works cpus turns op cpu rs = grind (arith, cases_Bool, turn_works)

pub next_works : (cpus turns : ℕ) (rs : List Receipt) (e : Event) (reply : Reply)
    → all_work (next_after cpus turns rs e reply) ≡ true
next_works cpus turns rs (Begin plan) (Opened op) = drain_works cpus turns op 0 rs
next_works cpus turns rs (DrainFor op cpu) Done = drain_works cpus turns op (cpu + 1) rs
next_works cpus turns rs (Migrate op) (Moved from to) = turn_works turns op rs
next_works cpus turns rs (Migrate op) (Refused NoFrame) = drain_works cpus turns op 0 rs
next_works cpus turns rs (Migrate op) (Refused NothingToMove) = refl
next_works cpus turns rs (Commit op) (Refused (NotFree frame)) = drain_works cpus turns op 0 rs
next_works cpus turns rs e reply = refl

-- ---- stages

begins_first : (s : Stage) → has_begun s ≡ false → s ≡ Begins
begins_first Begins off = refl
begins_first s off = absurd cc

-- a run that is over asks for nothing, and another one does
pub asks_none : (s : Stage) (plan : List Item) → is_over s ≡ true → event_in plan s ≡ None
asks_none (Ended end) plan over = refl
asks_none s plan over = absurd cc

pub asks_some : (s : Stage) (plan : List Item) → is_over s ≡ false → (e : Event) × (event_in plan s ≡ Some e)
asks_some (Ended end) plan on = absurd cc
asks_some s plan on = (_, refl)

-- ---- drivers

pub begun_after : (cpus turns : ℕ) (rs : List Receipt) (r : Receipt) (d : Driver)
    → IsAfter cpus turns (rs ++ r ∷ []) d → has_begun d.stage ≡ true
begun_after cpus turns rs r d after =
    elim (cases_Bool (has_begun d.stage)) [
      | inl is ↦ is
      | inr is ↦ absurd (let begins : Some (Begin []) ≡ next_after cpus turns (rs ++ r ∷ []) r.event r.reply =
          ap (event_in []) (sym (begins_first d.stage is)) ∙ (after.next [] ∙ next_push cpus turns [] rs r) in
          let no = ap all_work begins ∙ next_works cpus turns (rs ++ r ∷ []) r.event r.reply in cc)
    ]

pub none_before : (cpus turns : ℕ) (own : List Receipt) (d : Driver) → IsAfter cpus turns own d
    → has_begun d.stage ≡ false → own ≡ []
none_before cpus turns own d after off =
    elim (push_cases own) [
      | inl none ↦ none
      | inr push ↦ absurd (let on : has_begun d.stage ≡ true =
          begun_after cpus turns push.front push.last d (rw push.list_is at after) in cc)
    ]

pub some_after : (cpus turns : ℕ) (own : List Receipt) (d : Driver) → IsAfter cpus turns own d
    → has_begun d.stage ≡ true → IsPush own
some_after cpus turns own d after on =
    elim (push_cases own) [
      | inl none ↦ absurd (begun_not d.stage on (after.next [] ∙ ap (next_event cpus turns []) none))
      | inr push ↦ push
    ]
  where
    begun_not : (s : Stage) → has_begun s ≡ true → event_in [] s ≡ Some (Begin []) → ⊥
    begun_not Begins began same = cc
    begun_not s began same = cc
