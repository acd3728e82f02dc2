-- A cursor after a call, and where its line is over.
use Rattle.std.proofs.Common.{◌≡◌, ℕ, zero, suc, ◌+◌, ◌-◌, ◌≤◌, true, false, List, [], ◌∷◌, ◌++◌, length, take, drop, Option, Some, None, slice_get, add-one, drop-cons, refl, sym, ◌∙◌, arith, inl, inr}
use Rattle.std.proofs.lemmas.Bool.{cases_lt}
use Rattle.std.proofs.lemmas.List.{append-nil, append_assoc}
use Rattle.std.proofs.lemmas.List.Sums.{fold_push}
use Rattle.std.proofs.lemmas.Option.{get_or_from_slice_get, none-some, slice_get_within}
use Rattle.std.proofs.Math.ListN.{drop_of_length-le}
use Rattle.hp_laws.proofs.Lists.{get_some}
use Rattle.hp_laws.proofs.Replays.{take_one}
use Rattle.hp_ops.specs.Stages.{IsAfter, MovesOn, event_in}
use Rattle.hp_ops.specs.declared.stages.Driver.{Driver}
use Rattle.hp_ops.specs.declared.stages.Stage.{Stage}
use Rattle.hp_ops.specs.declared.stages.Stage.TheVariants.{Begin as Begins}
use Rattle.hp_units.specs.declared.events.Event.TheVariants.{Begin}
use Rattle.hp_units.specs.declared.events.Event.{Event}
use Rattle.hp_units.specs.declared.plans.Item.{Item}
use Rattle.hp_units.specs.declared.replies.Receipt.{Receipt}
use Rattle.hp_schedules.specs.Cursors.{IsAsked, IsCursor, IsIn, IsInFirst, IsRequested, asks, asks_at, cursor_at, driver_before, first_driver}
use Rattle.hp_schedules.specs.Interleavings.{is_one_call}
use Rattle.hp_schedules.specs.Scripts.{Known, after_line, after_lines, known_of, later_operation, next_in, next_of, own_operation}
use Rattle.hp_schedules.specs.declared.cursors.Cursor.{Cursor}
use Rattle.hp_schedules.specs.declared.cursors.NextCall.{NextCall}
use Rattle.hp_schedules.specs.declared.scripts.Step.{Step}
use Rattle.hp_schedules.specs.declared.scripts.Step.TheVariants.{Ask, Own, Carry}
use Rattle.hp_schedules.proofs.AfterLines.{lines_more, lines_then}
use Rattle.hp_schedules.proofs.Lines.{goes_on, goes_on_all, over_now}
use Rattle.hp_schedules.proofs.OneCalls.{finished_once, skips}

-- ---- the line at a place

-- the lines from there on, with the next one by its number
pub lines_here : {A : Type 0} (lines : List A) (k : ℕ) (line : A) → slice_get lines k ≡ Some line
    → drop k lines ≡ line ∷ drop (k + 1) lines
lines_here lines k line here =
    let within = slice_get_within lines k line here in
    rw (drop-cons lines k line within, get_or_from_slice_get lines k line line here, add-one)

-- ---- where a line begins

-- a driver before its first call is no other
stage_is : (s : Stage) → event_in [] s ≡ Some (Begin []) → s ≡ Begins
stage_is Begins same = refl
stage_is s same = absurd cc

pub driver_is : (cpus turns : ℕ) (d : Driver) → IsAfter cpus turns [] d → d ≡ driver_before cpus turns
driver_is cpus turns d after =
    let left : d.left ≡ turns - 0 = after.left in
    let all : d.left ≡ turns = omega (arith, left) in
    rw (← after.processors, ← all, ← after.why, ← stage_is d.stage (after.next []))

first_is : (cpus : ℕ) (line : Step) → IsIn cpus line [] (first_driver cpus line)
first_is cpus (Ask event) = refl
first_is cpus (Own work) = refl
first_is cpus (Carry plan turns) =
    let none_tried : turns ≡ turns - 0 = omega arith in
    record { processors = refl; left = none_tried; why = refl; next = λ plan. refl; end = refl }

-- so it is at each line, and past the last one
first_there : (cpus : ℕ) (lines : List Step) (k op : ℕ)
    → IsInFirst cpus (drop k lines) [] (cursor_at cpus lines k op).driver
first_there cpus [] zero op = tt
first_there cpus [] (suc k) op = tt
first_there cpus (line ∷ lines) zero op = (first_is cpus line, λ n later. refl)
first_there cpus (line ∷ lines) (suc k) op = first_there cpus lines k op

-- where a script begins
pub begins : (cpus : ℕ) (lines : List Step) → IsCursor cpus lines [] (cursor_at cpus lines 0 0)
begins cpus lines =
    record {
      own = [];
      begun = refl;
      ahead = λ known later. refl;
      here = first_there cpus lines 0 0;
      within = omega arith;
      passed = λ known. refl;
    }

-- ---- a plan

-- it goes on where its driver asks for something
pub plan_on : (cpus turns : ℕ) (known : Known) (plan : List Item) (lines : List Step) (own : List Receipt)
    (d : Driver) (e : Event)
    → IsInFirst cpus (Carry plan turns ∷ lines) own d → event_in plan d.stage ≡ Some e
    → after_line cpus known (Carry plan turns) [] own ≡ None
plan_on cpus turns known plan lines own d e first is =
    (rw append-nil at (first.1 known []))
    ∙ goes_on_all cpus known (Carry plan turns) own e (sym (first.0.next plan) ∙ is)

-- ---- what is asked for

-- by the first of lines
first_asks : (cpus : ℕ) (receipts : List Receipt) (line : Step) (lines : List Step) (own : List Receipt)
    (c : Cursor) (e : Event)
    → c.op ≡ own_operation receipts → IsInFirst cpus (line ∷ lines) own c.driver
    → asks receipts c line ≡ Some e
    → next_in cpus (known_of receipts) (line ∷ lines) own ≡ Some e
first_asks cpus receipts (Ask event) lines own c e begun first is = rw first.0 is
first_asks cpus receipts (Own work) lines own c e begun first is = rw (first.0, ← begun) is
first_asks cpus receipts (Carry plan turns) lines own c e begun first is =
    rw (plan_on cpus turns (known_of receipts) plan lines own c.driver e first is)
    (sym (first.0.next plan) ∙ is)

-- where it is over
first_over : (cpus : ℕ) (known : Known) (receipts : List Receipt) (line : Step) (lines : List Step)
    (own later : List Receipt) (c : Cursor)
    → IsInFirst cpus (line ∷ lines) own c.driver → asks receipts c line ≡ None
    → next_in cpus known (line ∷ lines) (own ++ later) ≡ next_in cpus known lines later
first_over cpus known receipts (Carry plan turns) lines own later c first is =
    rw (first.1 known later, over_now cpus known (Carry plan turns) own later (sym (first.0.next plan) ∙ is))
first_over cpus known receipts line lines own later c first is = absurd cc

-- the first of the lines from there on
pub at_first : (cpus : ℕ) (lines : List Step) (receipts : List Receipt) (c : Cursor) (line : Step)
    (is : IsCursor cpus lines receipts c)
    → slice_get lines c.line ≡ Some line → IsInFirst cpus (line ∷ drop (c.line + 1) lines) is.own c.driver
at_first cpus lines receipts c line is here = rw (lines_here lines c.line line here) at is.here

ahead_first : (cpus : ℕ) (lines : List Step) (receipts : List Receipt) (c : Cursor) (line : Step)
    (is : IsCursor cpus lines receipts c) (known : Known) (later : List Receipt)
    → slice_get lines c.line ≡ Some line
    → next_in cpus known lines (receipts ++ later)
    ≡ next_in cpus known (line ∷ drop (c.line + 1) lines) (is.own ++ later)
ahead_first cpus lines receipts c line is known later here =
    rw (lines_here lines c.line line here) at (is.ahead known later)

-- so the script asks for what its line does
asks_next : (cpus : ℕ) (lines : List Step) (receipts : List Receipt) (c : Cursor) (e : Event)
    → IsCursor cpus lines receipts c → asks_at receipts c lines ≡ Some e
    → next_of cpus lines receipts ≡ Some e
asks_next cpus lines receipts c e is asked = by_line (slice_get lines c.line) refl
  where
    by_line : (o : Option Step) → slice_get lines c.line ≡ o → next_of cpus lines receipts ≡ Some e
    by_line None here = let none = rw here at asked in absurd cc
    by_line (Some line) here =
        (rw (append-nil receipts, append-nil is.own) at
        (ahead_first cpus lines receipts c line is (known_of receipts) [] here))
        ∙ first_asks cpus receipts line (drop (c.line + 1) lines) is.own c e is.begun
        (at_first cpus lines receipts c line is here) (rw here at asked)

-- and after its last line for nothing
pub past_next : (cpus : ℕ) (lines : List Step) (receipts : List Receipt) (c : Cursor)
    → IsCursor cpus lines receipts c → length lines ≤ c.line → next_of cpus lines receipts ≡ None
past_next cpus lines receipts c is past =
    rw (append-nil receipts, drop_of_length-le lines past) at (is.ahead (known_of receipts) [])

-- ---- the lines before a cursor

-- the line at a cursor is finished by its receipts
pub own_over : (cpus : ℕ) (known : Known) (receipts : List Receipt) (line : Step) (lines : List Step)
    (own : List Receipt) (c : Cursor)
    → IsInFirst cpus (line ∷ lines) own c.driver → asks receipts c line ≡ None
    → after_line cpus known line [] own ≡ Some []
own_over cpus known receipts (Carry plan turns) lines own c first is =
    (rw append-nil at (first.1 known []))
    ∙ over_now cpus known (Carry plan turns) own [] (sym (first.0.next plan) ∙ is)
own_over cpus known receipts line lines own c first is = absurd cc

-- after it one line more is before the next one
passed_one : (cpus : ℕ) (known : Known) (lines : List Step) (receipts own : List Receipt) (k : ℕ)
    (line : Step)
    → slice_get lines k ≡ Some line → after_lines cpus known (take k lines) receipts ≡ Some own
    → after_line cpus known line [] own ≡ Some []
    → after_lines cpus known (take (k + 1) lines) receipts ≡ Some []
passed_one cpus known lines receipts own k line here passed over =
    rw (take_one lines k line here)
    (rw (lines_then cpus known (take k lines) (line ∷ []) receipts own passed, over))

-- ---- the next line

moved_on : (cpus : ℕ) (lines : List Step) (receipts : List Receipt) (c : Cursor) (line : Step)
    → IsCursor cpus lines receipts c → slice_get lines c.line ≡ Some line → asks receipts c line ≡ None
    → IsCursor cpus lines receipts (cursor_at cpus lines (c.line + 1) c.op)
moved_on cpus lines receipts c line is here over = record {
  own = [];
  begun = is.begun;
  ahead =
      λ known later. ahead_first cpus lines receipts c line is known later here
      ∙ first_over cpus known receipts line (drop (c.line + 1) lines) is.own later c
      (at_first cpus lines receipts c line is here) over;
  here = first_there cpus lines (c.line + 1) c.op;
  within = omega (arith, slice_get_within lines c.line line here);
  passed =
      λ known. passed_one cpus known lines receipts is.own c.line line here (is.passed known)
      (own_over cpus known receipts line (drop (c.line + 1) lines) is.own c
      (at_first cpus lines receipts c line is here) over);
}

-- which asks for something
first_some : (cpus : ℕ) (receipts : List Receipt) (lines : List Step) (c : Cursor)
    → IsInFirst cpus (drop c.line lines) [] c.driver
    → asks_at receipts c lines ≡ None → length lines ≤ c.line
first_some cpus receipts lines c first none =
    elim (cases_lt c.line (length lines)) [
      | inl within ↦
          (let at = get_some lines c.line within in
          absurd (begins at.0 (rw (lines_here lines c.line at.0 at.1) at first).0 (rw at.1 at none)))
      | inr past ↦ past
    ]
  where
    begins : (line : Step) → IsIn cpus line [] c.driver → asks receipts c line ≡ None → ⊥
    begins (Carry plan turns) is over = none-some _ (sym over ∙ is.next plan)
    begins line is over = cc

-- ---- a request

pub requested : (cpus : ℕ) (lines : List Step) (receipts : List Receipt) (c : Cursor) (q : Option NextCall)
    (r : NextCall)
    → IsAsked receipts c lines q → q ≡ Some r → IsCursor cpus lines receipts c
    → IsRequested cpus lines receipts q
requested cpus lines receipts c None r asked some is = absurd cc
requested cpus lines receipts c (Some q) r asked some is =
    (asks_next cpus lines receipts c q.event is asked.0, rw asked.1 is, rw asked.1 asked.0)

-- by the next line, where this one is over
pub requested_new : (cpus : ℕ) (lines : List Step) (receipts : List Receipt) (c n : Cursor) (line : Step)
    (q : Option NextCall)
    → IsCursor cpus lines receipts c → slice_get lines c.line ≡ Some line → asks_at receipts c lines ≡ None
    → n ≡ cursor_at cpus lines (c.line + 1) c.op → IsAsked receipts n lines q
    → IsRequested cpus lines receipts q
requested_new cpus lines receipts c n line q is here over new asked = by_request q (rw new at asked)
  where
    next : Cursor
    next = cursor_at cpus lines (c.line + 1) c.op

    there : IsCursor cpus lines receipts next
    there = moved_on cpus lines receipts c line is here (rw here at over)

    by_request : (o : Option NextCall) → IsAsked receipts next lines o → IsRequested cpus lines receipts o
    by_request None none =
        past_next cpus lines receipts next there
        (first_some cpus receipts lines next (first_there cpus lines (c.line + 1) c.op) none)
    by_request (Some r) some = requested cpus lines receipts next (Some r) r some refl there

-- ---- an answer

-- a line of one call is over
pub answered_new : (cpus : ℕ) (lines : List Step) (receipts : List Receipt) (c n : Cursor) (line : Step)
    (r : Receipt)
    → slice_get lines c.line ≡ Some line → is_one_call line ≡ true
    → n ≡ cursor_at cpus lines (c.line + 1) (later_operation c.op r)
    → IsCursor cpus lines receipts c → IsCursor cpus lines (receipts ++ r ∷ []) n
answered_new cpus lines receipts c n line r here one new is = rw new (record {
  own = [];
  begun = rw (is.begun, fold_push);
  ahead =
      λ known later. rw (append_assoc, ahead_first cpus lines receipts c line is known (r ∷ later) here)
      (rw none (skips cpus known line (drop (c.line + 1) lines) r later one));
  here = first_there cpus lines (c.line + 1) (later_operation c.op r);
  within = omega (arith, slice_get_within lines c.line line here);
  passed =
      λ known. passed_one cpus known lines (receipts ++ r ∷ []) (r ∷ []) c.line line here
      (rw none at (lines_more cpus known (take c.line lines) receipts (r ∷ []) is.own (is.passed known)))
      (finished_once cpus known line r [] one);
})
  where
    by_line : (l : Step) → IsIn cpus l is.own c.driver → is_one_call l ≡ true → is.own ≡ []
    by_line (Ask event) own single = own
    by_line (Own work) own single = own
    by_line (Carry plan turns) own single = absurd cc

    none : is.own ≡ []
    none = by_line line (at_first cpus lines receipts c line is here).0 one

-- a plan goes on
pub answered_run : (cpus : ℕ) (lines : List Step) (receipts : List Receipt) (c n : Cursor) (line : Step)
    (r : Receipt) (e : Event)
    → slice_get lines c.line ≡ Some line → is_one_call line ≡ false → asks_at receipts c lines ≡ Some e
    → n.line ≡ c.line → n.op ≡ later_operation c.op r → MovesOn c.driver r.event r.reply n.driver
    → IsCursor cpus lines receipts c → IsCursor cpus lines (receipts ++ r ∷ []) n
answered_run cpus lines receipts c n line r e here one asked same op_is moves is = record {
  own = is.own ++ r ∷ [];
  begun = rw (op_is, is.begun, fold_push);
  ahead =
      λ known later. rw (append_assoc receipts (r ∷ []) later, append_assoc is.own (r ∷ []) later, same)
      (is.ahead known (r ∷ later));
  here =
      rw (same, lines_here lines c.line line here)
      (by_line line (at_first cpus lines receipts c line is here) one (rw here at asked));
  within = omega (arith, same, is.within);
  passed =
      λ known. rw same
      (lines_more cpus known (take c.line lines) receipts (r ∷ []) is.own (is.passed known));
}
  where
    by_line : (l : Step) → IsInFirst cpus (l ∷ drop (c.line + 1) lines) is.own c.driver
        → is_one_call l ≡ false → asks receipts c l ≡ Some e
        → IsInFirst cpus (l ∷ drop (c.line + 1) lines) (is.own ++ r ∷ []) n.driver
    by_line (Carry plan turns) at several some = (
      moves cpus turns is.own r refl refl at.0,
      λ known later. rw (append_assoc is.own (r ∷ []) later) (at.1 known (r ∷ later)
          ∙ goes_on cpus known (Carry plan turns) is.own r later e (sym (at.0.next plan) ∙ some)),
    )
    by_line l at several some = absurd cc
