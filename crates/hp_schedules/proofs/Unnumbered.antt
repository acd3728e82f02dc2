-- What lines ask for does not depend on their receipts' serials, but for the results that they work
-- on.
use Rattle.std.proofs.Common.{◌≡◌, ℕ, true, get_or, ltb, List, [], ◌∷◌, ◌++◌, map, Option, Some, None, inl, inr, refl, subst, arith}
use Rattle.std.specs.Prelude.{option_map}
use Rattle.std.specs.List.{last_or, list_all}
use Rattle.std.proofs.lemmas.Bool.{and_parts}
use Rattle.std.proofs.lemmas.List.{map-append}
use Rattle.std.proofs.lemmas.List.Sums.{sum_by-cons}
use Rattle.hp_units.specs.Driver.{next_after, next_event, tried}
use Rattle.hp_units.specs.History.{effect_of}
use Rattle.hp_units.specs.declared.events.Event.{Event}
use Rattle.hp_units.specs.declared.events.Event.TheVariants.{Begin, DrainFor, Migrate, Commit, UndoAfter}
use Rattle.hp_units.specs.declared.plans.Item.{Item}
use Rattle.hp_units.specs.declared.replies.Receipt.{Receipt}
use Rattle.hp_units.specs.declared.replies.Refusal.TheVariants.{NoFrame, NothingToMove, NotFree}
use Rattle.hp_units.specs.declared.replies.Reply.{Reply}
use Rattle.hp_units.specs.declared.replies.Reply.TheVariants.{Done, Moved, Opened, Refused}
use Rattle.hp_laws.proofs.Options.{cases_option}
use Rattle.hp_schedules.specs.Alike.{is_mergeable_line, leaves_steps, unnumbered}
use Rattle.hp_schedules.specs.Scripts.{Known, after_line, line_next, next_in, once, step_work_of, work_of}
use Rattle.hp_schedules.specs.declared.scripts.OwnWork.{OwnWork}
use Rattle.hp_schedules.specs.declared.scripts.OwnWork.TheVariants.{Latest, Nth, Free}
use Rattle.hp_schedules.specs.declared.scripts.Step.{Step}
use Rattle.hp_schedules.specs.declared.scripts.Step.TheVariants.{Ask, Own, Carry}
use Rattle.hp_schedules.specs.declared.scripts.StepWork.{StepWork}
use Rattle.hp_schedules.specs.declared.scripts.StepWork.TheVariants as work
use Rattle.hp_schedules.proofs.Begun.{all_work, next_works}

-- ---- the driver

abbrev plain : List Receipt → List Receipt
plain rs = map unnumbered rs

-- as many migrations were tried
tried_same : (rs : List Receipt) → tried (plain rs) ≡ tried rs
tried_same [] = refl
tried_same (r ∷ rs) = simp (sum_by-cons, tried_same rs)

-- so the same follows an answer where a migration is left after both or neither
pub after_same : (cpus turns : ℕ) (xs ys : List Receipt) → ltb (tried xs) turns ≡ ltb (tried ys) turns
    → (e : Event) (reply : Reply)
    → next_after cpus turns xs e reply ≡ next_after cpus turns ys e reply
after_same cpus turns xs ys same (Begin plan) (Opened op) = rw same
after_same cpus turns xs ys same (DrainFor op cpu) Done = rw same
after_same cpus turns xs ys same (Migrate op) (Moved from to) = rw same
after_same cpus turns xs ys same (Migrate op) (Refused NoFrame) = rw same
after_same cpus turns xs ys same (Migrate op) (Refused NothingToMove) = refl
after_same cpus turns xs ys same (Commit op) (Refused (NotFree frame)) = rw same
after_same cpus turns xs ys same e reply = refl

last_same : (rs : List Receipt) (o : Option Receipt)
    → last_or (option_map unnumbered o) (plain rs) ≡ option_map unnumbered (last_or o rs)
last_same [] o = refl
last_same (r ∷ rs) o = last_same rs (Some r)

driver_same : (cpus turns : ℕ) (plan : List Item) (rs : List Receipt)
    → next_event cpus turns plan (plain rs) ≡ next_event cpus turns plan rs
driver_same cpus turns plan rs =
    rw (last_same rs None) (elim (cases_option (last_or None rs)) [
      | inl none ↦ rw none
      | inr r ↦ rw r.1 (after_same cpus turns (plain rs) rs (rw (tried_same rs)) r.0.event r.0.reply)
    ])

-- ---- lines

once_same : (e : Event) (rs : List Receipt) → once e (plain rs) ≡ once e rs
once_same e [] = refl
once_same e (r ∷ rs) = refl

line_same : (cpus : ℕ) (known : Known) (line : Step) (rs : List Receipt)
    → line_next cpus known line (plain rs) ≡ line_next cpus known line rs
line_same cpus known (Ask event) rs = once_same event rs
line_same cpus known (Own work) rs = once_same (work_of known work) rs
line_same cpus known (Carry plan turns) rs = driver_same cpus turns plan rs

-- what a line leaves of the receipts
rest_same : (cpus : ℕ) (known : Known) (line : Step) (earlier later : List Receipt)
    → after_line cpus known line (plain earlier) (plain later)
    ≡ option_map plain (after_line cpus known line earlier later)
rest_same cpus known line earlier [] = grind (arith, cases_option, line_same)
rest_same cpus known line earlier (r ∷ rs) =
    grind (arith, cases_option, line_same, map-append, rest_same cpus known line (earlier ++ r ∷ []) rs)

-- what lines ask for
pub next_plain : (cpus : ℕ) (known : Known) (lines : List Step) (rs : List Receipt)
    → next_in cpus known lines (map unnumbered rs) ≡ next_in cpus known lines rs
next_plain cpus known [] rs = refl
next_plain cpus known (line ∷ lines) rs =
    grind (arith, cases_option, rest_same cpus known line [], line_same, next_plain cpus known lines)

-- ---- no line undoes anything by serials

abbrev Leaves : Option Event → Type 0
Leaves None = Unit {0}
Leaves (Some e) = leaves_steps (effect_of e) ≡ true

works_leave : (o : Option Event) → all_work o ≡ true → Leaves o
works_leave None is = tt
works_leave (Some (UndoAfter serial)) is = absurd cc
works_leave (Some e) is = refl

step_leaves : (op : ℕ) (work : StepWork) → leaves_steps (effect_of (step_work_of op work)) ≡ true
step_leaves op (work.DrainFor cpu) = refl
step_leaves op w = refl

work_leaves : (known : Known) (work : OwnWork) → leaves_steps (effect_of (work_of known work)) ≡ true
work_leaves known (Latest work) = step_leaves known.op work
work_leaves known (Nth nth work) = step_leaves (get_or known.begun nth 0) work
work_leaves known (Free nth) = refl

once_leaves : (e : Event) (rs : List Receipt) → leaves_steps (effect_of e) ≡ true → Leaves (once e rs)
once_leaves e [] leaves = leaves
once_leaves e (r ∷ rs) leaves = tt

line_leaves : (cpus : ℕ) (known : Known) (line : Step) (rs : List Receipt) → is_mergeable_line line ≡ true
    → Leaves (line_next cpus known line rs)
line_leaves cpus known (Ask event) rs leaves = once_leaves event rs leaves
line_leaves cpus known (Own work) rs leaves = once_leaves (work_of known work) rs (work_leaves known work)
line_leaves cpus known (Carry plan turns) rs leaves = elim (cases_option (last_or None rs)) [
  | inl none ↦ rw none refl
  | inr r ↦ rw r.1 (works_leave _ (next_works cpus turns rs r.0.event r.0.reply))
]

pub lines_leave : (cpus : ℕ) (known : Known) (lines : List Step) (rs : List Receipt) (e : Event)
    → list_all is_mergeable_line lines ≡ true → next_in cpus known lines rs ≡ Some e
    → leaves_steps (effect_of e) ≡ true
lines_leave cpus known [] rs e all is = absurd cc
lines_leave cpus known (line ∷ lines) rs e all is =
    elim (cases_option (after_line cpus known line [] rs)) [
      | inl none ↦ subst Leaves (rw none at is) (line_leaves cpus known line rs (and_parts _ _ all).0)
      | inr rest ↦ lines_leave cpus known lines rest.0 e (and_parts _ _ all).1 (rw rest.1 at is)
    ]
