-- How many calls of a kind the steps of a script make: as many as there are steps of that kind.
use Rattle.std.proofs.Common.{◌≡◌, ℕ, ◌+◌, Bool, true, false, cond, List, [], ◌∷◌, ◌++◌, Some, None, refl, ap, sym, ◌∙◌, inl, inr, arith, append_assoc, append-nil}
use Rattle.std.specs.List.{count_by}
use Rattle.std.proofs.lemmas.List.Sums.{sum_by-append, sum_by-cons}
use Rattle.std.proofs.lemmas.Option.{same_Some}
use Rattle.hp_units.specs.Driver.{next_after, next_event}
use Rattle.hp_units.specs.Marks.{is_opening, mark_of}
use Rattle.hp_units.specs.declared.events.Event.{Event}
use Rattle.hp_units.specs.declared.events.Event.TheVariants.{Begin}
use Rattle.hp_units.specs.declared.plans.Item.{Item}
use Rattle.hp_units.specs.declared.replies.Receipt.{Receipt}
use Rattle.hp_ops.proofs.Receipts.{next_push}
use Rattle.hp_schedules.specs.Scripts.{Known, after_line, after_lines, line_next, next_in, nothing_known, takes_frame, work_of}
use Rattle.hp_schedules.specs.declared.scripts.OwnWork.{OwnWork}
use Rattle.hp_schedules.specs.declared.scripts.Step.{Step}
use Rattle.hp_schedules.specs.declared.scripts.Step.TheVariants.{Ask, Own, Carry}
use Rattle.hp_schedules.proofs.AfterLines.{after_more, after_parts, any_known, first_then}
use Rattle.hp_schedules.proofs.Begun.{all_work, is_work, next_works, push_cases}
use Rattle.hp_schedules.proofs.Lines.{goes_on, goes_on_all, over_now}

-- ---- what is counted

-- a step begins an operation; a step asks for a block for the kernel
abbrev pub step_begins : Step → Bool
step_begins (Ask event) = is_opening (mark_of event)
step_begins (Own work) = false
step_begins (Carry plan turns) = true

abbrev pub step_allocs : Step → Bool
step_allocs (Ask event) = takes_frame event
step_allocs (Own work) = false
step_allocs (Carry plan turns) = false

-- each receipt has the event that the steps call after the receipts before it
abbrev pub AreCalledAfter : (cpus : ℕ) → List Step → (earlier receipts : List Receipt) → Type 0
AreCalledAfter cpus lines earlier [] = Unit {0}
AreCalledAfter cpus lines earlier (r ∷ rs) =
    ((known : Known) × (next_in cpus known lines earlier ≡ Some r.event))
    × AreCalledAfter cpus lines (earlier ++ r ∷ []) rs

abbrev pub AreCalled : (cpus : ℕ) → List Step → List Receipt → Type 0
AreCalled cpus lines receipts = AreCalledAfter cpus lines [] receipts

-- ---- which events are counted

-- a step that is counted makes one call that is counted, its first
pub record Counts (q : Event → Bool) (s : Step → Bool) : Type 0 where
  pub asks : (event : Event) → s (Ask event) ≡ q event
  pub owns : (work : OwnWork) → s (Own work) ≡ false
  pub carries : (plan : List Item) (turns : ℕ) → s (Carry plan turns) ≡ q (Begin plan)
  pub works : (event : Event) → is_work event ≡ true → q event ≡ false

pub begins_count : Counts (λ event. is_opening (mark_of event)) step_begins
begins_count = record {
  asks = λ event. refl;
  owns = λ work. refl;
  carries = λ plan turns. refl;
  works = λ event is. grind arith;
}

pub allocs_count : Counts takes_frame step_allocs
allocs_count = record {
  asks = λ event. refl;
  owns = λ work. refl;
  carries = λ plan turns. refl;
  works = λ event is. grind arith;
}

work_works : (known : Known) (work : OwnWork) → is_work (work_of known work) ≡ true
work_works known work = grind arith

later_works : (cpus turns : ℕ) (plan : List Item) (x : Receipt) (xs : List Receipt) (e : Event)
    → next_event cpus turns plan (x ∷ xs) ≡ Some e → is_work e ≡ true
later_works cpus turns plan x xs e is =
    elim (push_cases (x ∷ xs)) [
      | inl none ↦ absurd cc
      | inr p ↦
          (let next : next_after cpus turns (p.front ++ p.last ∷ []) p.last.event p.last.reply ≡ Some e =
          rw (← next_push cpus turns plan p.front p.last, ← p.list_is) is in
          sym (ap all_work next) ∙ next_works cpus turns (p.front ++ p.last ∷ []) p.last.event p.last.reply)
    ]

-- ---- the calls of one step

-- the events that a step calls after its receipts so far
abbrev CalledOn : (cpus : ℕ) → Step → (earlier own : List Receipt) → Type 0
CalledOn cpus line earlier [] = Unit {0}
CalledOn cpus line earlier (r ∷ rs) =
    ((known : Known) × (line_next cpus known line earlier ≡ Some r.event))
    × CalledOn cpus line (earlier ++ r ∷ []) rs

-- a step that is over after more receipts was not over before them
goes_further : (cpus : ℕ) (line : Step) (earlier : List Receipt) (r : Receipt) (rs : List Receipt)
    → after_line cpus nothing_known line earlier (r ∷ rs) ≡ Some []
    → (e : Event) × (line_next cpus nothing_known line earlier ≡ Some e)
goes_further cpus line earlier r rs over =
    grind (arith, over_now cpus nothing_known line earlier (r ∷ rs))

on_line : (cpus : ℕ) (line : Step) (lines : List Step) (earlier own : List Receipt)
    → ((xs : List Receipt) → after_line cpus nothing_known line [] (earlier ++ xs)
    ≡ after_line cpus nothing_known line earlier xs)
    → AreCalledAfter cpus (line ∷ lines) earlier own
    → after_line cpus nothing_known line earlier own ≡ Some []
    → CalledOn cpus line earlier own
on_line cpus line lines earlier [] joins called over = tt
on_line cpus line lines earlier (r ∷ rs) joins called over =
    let on = goes_further cpus line earlier r rs over in
    let known = called.0.0 in
    let on_yet : after_line cpus known line [] earlier ≡ None =
    any_known cpus known line [] earlier
    ∙ (ap (after_line cpus nothing_known line []) (sym (append-nil earlier))
    ∙ (joins [] ∙ goes_on_all cpus nothing_known line earlier on.0 on.1)) in (
      (known, rw on_yet at called.0.1),
      on_line cpus line lines (earlier ++ r ∷ []) rs
          (λ xs. ap (after_line cpus nothing_known line []) (append_assoc earlier (r ∷ []) xs)
          ∙ (joins (r ∷ xs) ∙ goes_on cpus nothing_known line earlier r xs on.0 on.1))
          called.1 (sym (goes_on cpus nothing_known line earlier r rs on.0 on.1) ∙ over),
    )

pub counted_first : {X : Type 0} (p : X → Bool) (x : X) (xs : List X)
    → count_by p (x ∷ xs) ≡ cond (p x) 1 0 + count_by p xs
counted_first p x xs = sum_by-cons (λ y. cond (p y) 1 0) x xs

module _ {q : Event → Bool} {s : Step → Bool} (c : Counts q s) (cpus : ℕ) where
  -- none of the later ones is counted
  later_none : (line : Step) (x : Receipt) (earlier own : List Receipt) → CalledOn cpus line (x ∷ earlier) own
      → count_by (λ (r : Receipt). q r.event) own ≡ 0
  later_none line x earlier [] called = refl
  later_none line x earlier (r ∷ rs) called =
      rw (none line called.0.1) (later_none line x (earlier ++ r ∷ []) rs called.1)
    where
      none : (line : Step) → line_next cpus called.0.0 line (x ∷ earlier) ≡ Some r.event → q r.event ≡ false
      none (Carry plan turns) is = c.works r.event (later_works cpus turns plan x earlier r.event is)
      none line is = absurd cc

  -- the first one is, if the step is
  first_counted : (known : Known) (line : Step) (event : Event) → line_next cpus known line [] ≡ Some event
      → q event ≡ s line
  first_counted known (Ask e) event is = rw (← same_Some e event is) (sym (c.asks e))
  first_counted known (Own work) event is =
      rw (← same_Some (work_of known work) event is, c.owns work)
      (c.works (work_of known work) (work_works known work))
  first_counted known (Carry plan turns) event is =
      rw (← same_Some (Begin plan) event is) (sym (c.carries plan turns))

  own_count : (line : Step) (own : List Receipt) → CalledOn cpus line [] own
      → after_line cpus nothing_known line [] own ≡ Some []
      → count_by (λ (r : Receipt). q r.event) own ≡ cond (s line) 1 0
  own_count (Ask event) [] called over = absurd cc
  own_count line [] called over = absurd cc
  own_count line (r ∷ rs) called over =
      rw (
        counted_first (λ (x : Receipt). q x.event) r rs,
        later_none line r [] rs called.1,
        first_counted called.0.0 line r.event called.0.1,
      ) (omega arith)

-- ---- the calls of several steps

-- the calls that are left after the first ones
pub called_later : (cpus : ℕ) (lines : List Step) (earlier own later : List Receipt)
    → AreCalledAfter cpus lines earlier (own ++ later)
    → AreCalledAfter cpus lines earlier own × AreCalledAfter cpus lines (earlier ++ own) later
called_later cpus lines earlier [] later called =
    (tt, rw (append-nil earlier) called)
called_later cpus lines earlier (r ∷ rs) later called =
    let rest = called_later cpus lines (earlier ++ r ∷ []) rs later called.1 in
    ((called.0, rest.0), rw append_assoc at rest.1)

-- after the receipts of the first lines, the further ones call
pub next_past : (cpus : ℕ) (known : Known) (lines others : List Step) (past later : List Receipt)
    → after_lines cpus nothing_known lines past ≡ Some []
    → next_in cpus known (lines ++ others) (past ++ later) ≡ next_in cpus known others later
next_past cpus known [] others past later over = rw (same_Some past [] over)
next_past cpus known (line ∷ lines) others past later over =
    let f = first_then cpus nothing_known line lines past [] over in
    rw (
      any_known cpus known line [] (past ++ later),
      after_more cpus nothing_known line [] past later f.left f.first,
    )
    (next_past cpus known lines others f.left later f.others)

pub called_past : (cpus : ℕ) (lines others : List Step) (past earlier receipts : List Receipt)
    → after_lines cpus nothing_known lines past ≡ Some []
    → AreCalledAfter cpus (lines ++ others) (past ++ earlier) receipts
    → AreCalledAfter cpus others earlier receipts
called_past cpus lines others past earlier [] over called = tt
called_past cpus lines others past earlier (r ∷ rs) over called = (
  (called.0.0, rw (next_past cpus called.0.0 lines others past earlier over) at called.0.1),
  called_past cpus lines others past (earlier ++ r ∷ []) rs over (rw (append_assoc past earlier) at called.1),
)

-- so many of them are counted as steps are
pub lines_count : {q : Event → Bool} {s : Step → Bool} (c : Counts q s) (cpus : ℕ) (lines others : List Step)
    (receipts : List Receipt) → AreCalled cpus (lines ++ others) receipts
    → after_lines cpus nothing_known lines receipts ≡ Some []
    → count_by (λ (r : Receipt). q r.event) receipts ≡ count_by s lines
lines_count c cpus [] others receipts called over = rw (same_Some receipts [] over)
lines_count {q} {s} c cpus (line ∷ lines) others receipts called over =
    let f = first_then cpus nothing_known line lines receipts [] over in
    let p = after_parts cpus nothing_known line [] receipts f.left f.first in
    let parts = called_later cpus (line ∷ (lines ++ others)) [] p.own f.left (rw p.whole at called) in
    let once : after_lines cpus nothing_known (line ∷ []) p.own ≡ Some [] = rw p.over in
    rw (
      p.whole,
      sum_by-append (λ (r : Receipt). cond (q r.event) 1 0) p.own f.left,
      own_count c cpus line p.own
          (on_line cpus line (lines ++ others) [] p.own (λ xs. refl) parts.0 p.over) p.over,
      lines_count c cpus lines others f.left
          (called_past cpus (line ∷ []) (lines ++ others) p.own [] f.left once
          (rw (append-nil p.own) parts.1)) f.others,
      counted_first s line lines,
    )
