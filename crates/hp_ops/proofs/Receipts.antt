-- One receipt more of a driver's run, and its value then.
use Rattle.std.proofs.Common.{◌≡◌, ℕ, ◌+◌, ◌-◌, Bool, cond, List, [], ◌∷◌, ◌++◌, Option, Some, None, refl, ap, sym, subst, ◌∙◌, append_assoc, append-nil, arith}
use Rattle.std.specs.Prelude.{nat_lt}
use Rattle.std.specs.List.{last_or}
use Rattle.std.proofs.lemmas.Bool.{lt-ltb, le-ltb, ltb-true, ltb-false}
use Rattle.std.proofs.lemmas.List.Sums.{fold-append, sum_by-append, sum_by-cons}
use Rattle.hp_units.specs.Driver.{AllNext, cause_after, cause_of, end_after, end_of, is_migrate, next_after, next_event, tried}
use Rattle.hp_ops.specs.Names.{Item, Event, Reply, Receipt, Driver}
use Rattle.hp_ops.specs.Stages.{EndsAs, Follows, MovesOn}

-- ---- one receipt more

-- the last of a list with one item more
last_push : {A : Type 0} (o : Option A) (xs : List A) (x : A) → last_or o (xs ++ x ∷ []) ≡ Some x
last_push o [] x = refl
last_push o (y ∷ ys) x = last_push (Some y) ys x

-- each receipt is the next one, and so is one more
pub all_push : (cpus turns : ℕ) (plan : List Item) (earlier rs : List Receipt) (r : Receipt)
    → AllNext cpus turns plan earlier rs → next_event cpus turns plan (earlier ++ rs) ≡ Some r.event
    → AllNext cpus turns plan earlier (rs ++ r ∷ [])
all_push cpus turns plan earlier [] r h e = grind (arith, append-nil)
all_push cpus turns plan earlier (x ∷ rs) r h e = (
  h.0,
  all_push cpus turns plan (earlier ++ x ∷ []) rs r h.1 (subst (λ (xs : List Receipt).
      next_event cpus turns plan xs ≡ Some r.event) (sym (append_assoc earlier (x ∷ []) rs)) e),
)

-- what is next after one receipt more
pub next_push : (cpus turns : ℕ) (plan : List Item) (rs : List Receipt) (r : Receipt)
    → next_event cpus turns plan (rs ++ r ∷ []) ≡ next_after cpus turns (rs ++ r ∷ []) r.event r.reply
next_push cpus turns plan rs r = rw (last_push None rs r)

-- the last refusal, the number of migrations and the operation after one receipt more
cause_push : (rs : List Receipt) (r : Receipt)
    → cause_of (rs ++ r ∷ []) ≡ cause_after (cause_of rs) r.event r.reply
cause_push rs r = grind (arith, fold-append)

pub count_push : (rs : List Receipt) (r : Receipt)
    → tried (rs ++ r ∷ []) ≡ tried rs + cond (is_migrate r.event) 1 0
count_push rs r = grind (arith, sum_by-append, sum_by-cons)

-- the end after one receipt more
pub end_push : (rs : List Receipt) (r : Receipt)
    → end_of (rs ++ r ∷ []) ≡ end_after (cause_after (cause_of rs) r.event r.reply) r.event r.reply
end_push rs r = rw (last_push None rs r, cause_push rs r)

-- ---- the driver's value moves on

-- whether a migration is left
pub left_is : (n turns left : ℕ) → left ≡ turns - n → (b : Bool) → nat_lt n turns ≡ b → b ≡ nat_lt 0 left
left_is n turns left is b h = grind (arith, ltb-true, lt-ltb, ltb-false, le-ltb)

-- one receipt more
pub moved_on : (old new : Driver) (event : Event) (reply : Reply) → new.cpus ≡ old.cpus
    → new.left ≡ old.left - cond (is_migrate event) 1 0 → new.why ≡ cause_after old.why event reply
    → Follows new.cpus new.left event reply new.stage → EndsAs new.why event reply new.stage
    → MovesOn old event reply new
moved_on old new event reply same fewer why follows finishes cpus turns earlier r asked replied at =
    let rs = earlier ++ r ∷ [] in
    let left : new.left ≡ turns - tried rs = grind (arith, count_push) in
    let cause : new.why ≡ cause_of rs = cc (at.why, cause_push earlier r) in
    record {
      processors = same ∙ at.processors;
      left = left;
      why = cause;
      next =
          λ plan. follows turns plan rs (left_is (tried rs) turns new.left left _ refl)
          ∙ (ap (λ (n : ℕ). next_after n turns rs event reply) (same ∙ at.processors)
          ∙ sym (next_push cpus turns plan earlier r
          ∙ (ap (λ (e : Event). next_after cpus turns rs e r.reply) asked
          ∙ ap (λ (y : Reply). next_after cpus turns rs event y) replied)));
      end = grind (arith, end_push, cause_push);
    }
