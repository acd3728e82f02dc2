-- The answers up to a cursor.
use Rattle.std.proofs.Common.{◌≡◌, ℕ, ◌+◌, ◌≤◌, Bool, true, false, cond, List, [], ◌∷◌, ◌++◌, length, take, drop, Option, Some, None, slice_get, refl, ◌∙◌, arith}
use Rattle.std.specs.Prelude.{option_map}
use Rattle.std.proofs.lemmas.List.{append-nil, length-append, length-take-le, take-append-drop}
use Rattle.std.proofs.Math.ListN.{drop_of_length-le}
use Rattle.hp_ops.specs.Stages.{MovesOn, end_in, is_over}
use Rattle.hp_units.specs.declared.replies.Receipt.{Receipt}
use Rattle.std.proofs.lemmas.Bool.{cases_lt}
use Rattle.std.proofs.lemmas.Option.{slice_get_cases}
use Rattle.hp_schedules.specs.Cursors.{IsCursor, IsInFirst, IsSettled, carries, has_carried}
use Rattle.hp_schedules.specs.Interleavings.{is_one_call}
use Rattle.hp_schedules.specs.LineAnswers.{answers_in}
use Rattle.hp_schedules.specs.Scripts.{after_lines, nothing_known}
use Rattle.hp_schedules.specs.declared.cursors.Cursor.{Cursor}
use Rattle.hp_schedules.specs.declared.line_answers.LineAnswer.{LineAnswer}
use Rattle.hp_schedules.specs.declared.line_answers.LineAnswer.TheVariants.{Plan as Carried}
use Rattle.hp_schedules.specs.declared.scripts.Step.{Step}
use Rattle.hp_schedules.specs.declared.scripts.Step.TheVariants.{Ask, Own, Carry}
use Rattle.hp_schedules.proofs.Asked.{at_first, lines_here, own_over, plan_on}
use Rattle.hp_schedules.proofs.Begun.{asks_none, asks_some, begun_after}
use Rattle.hp_schedules.proofs.LineAnswers.{answers_many, answers_past, none_begun, without_is}

-- ---- a cursor that a call moved

pub settled_run : (cpus : ℕ) (lines : List Step) (receipts : List Receipt) (c n : Cursor) (line : Step)
    (r : Receipt)
    → slice_get lines c.line ≡ Some line → is_one_call line ≡ false → n.line ≡ c.line
    → MovesOn c.driver r.event r.reply n.driver → IsCursor cpus lines receipts c → IsSettled lines n
settled_run cpus lines receipts c n line r here one same moves is off =
    let on = by_line _ (at_first cpus _ receipts c _ is here) one in
    let at = rw (same, here) at off in
    absurd cc
  where
    by_line : (l : Step) → IsInFirst cpus (l ∷ drop (c.line + 1) lines) is.own c.driver
        → is_one_call l ≡ false → carries n l ≡ true
    by_line (Carry plan turns) at several = begun_after _ _ _ r _ (moves cpus turns is.own r refl refl at.0)
    by_line l at several = absurd cc

-- ---- the answers up to a cursor

-- the line at it, if that is a plan at its end
abbrev pub here_at : Cursor → Option Step → List (Option LineAnswer)
here_at c None = []
here_at c (Some line) = cond (has_carried c line) (option_map Carried (end_in c.driver.stage) ∷ []) []

-- by the line's receipts
by_own : (cpus : ℕ) (line : Step) (lines : List Step) (own : List Receipt) (c : Cursor)
    → IsInFirst cpus (line ∷ lines) own c.driver
    → answers_in cpus (line ∷ lines) own ≡ here_at c (Some line)
by_own cpus (Ask event) lines own c first = rw first.0
by_own cpus (Own work) lines own c first = rw first.0
by_own cpus (Carry plan turns) lines own c first = by_end (is_over c.driver.stage) refl
  where
    by_end : (b : Bool) → is_over c.driver.stage ≡ b
        → answers_in cpus (Carry plan turns ∷ lines) own
        ≡ cond b (option_map Carried (end_in c.driver.stage) ∷ []) []
    by_end true over =
        rw (own_over cpus nothing_known [] (Carry plan turns) lines own c first
        (asks_none c.driver.stage plan over))
        (rw (none_begun cpus lines, rw append-nil at (without_is own []), first.0.end))
    by_end false on =
        let next = asks_some c.driver.stage plan on in
        rw (plan_on cpus turns nothing_known plan lines own c.driver next.0 first next.1)

pub past_end : (lines : List Step) (k : ℕ) → slice_get lines k ≡ None → length lines ≤ k
past_end lines k none = grind (arith, cases_lt, slice_get_cases)

-- those of the lines before it, and that of its own line
abbrev pub before : (cpus : ℕ) → List Step → List Receipt → Cursor → List (Option LineAnswer)
before cpus lines receipts c = answers_in cpus (take c.line lines) receipts

pub up_to : (cpus : ℕ) (lines : List Step) (receipts : List Receipt) (c : Cursor) (o : Option Step)
    → slice_get lines c.line ≡ o → IsCursor cpus lines receipts c
    → answers_in cpus lines receipts ≡ before cpus lines receipts c ++ here_at c o
up_to cpus lines receipts c o here is =
    rw (take-append-drop, by_line o here) at
    (answers_past cpus (take c.line lines) (drop c.line lines) receipts is.own (is.passed nothing_known))
  where
    by_line : (o : Option Step) → slice_get lines c.line ≡ o
        → answers_in cpus (drop c.line lines) is.own ≡ here_at c o
    by_line None none = rw (drop_of_length-le lines (past_end lines c.line none))
    by_line (Some line) some =
        rw (lines_here lines c.line line some)
        (by_own cpus line (drop (c.line + 1) lines) is.own c (at_first cpus lines receipts c line is some))

pub before_many : (cpus : ℕ) (lines : List Step) (receipts : List Receipt) (k : ℕ) (own : List Receipt)
    → k ≤ length lines → after_lines cpus nothing_known (take k lines) receipts ≡ Some own
    → length (answers_in cpus (take k lines) receipts) ≡ k
before_many cpus lines receipts k own within passed =
    answers_many cpus (take k lines) receipts own passed ∙ length-take-le k lines within

-- so many are finished
pub many_finished : (cpus : ℕ) (lines : List Step) (receipts : List Receipt) (c : Cursor) (o : Option Step)
    → slice_get lines c.line ≡ o → IsCursor cpus lines receipts c
    → length (answers_in cpus lines receipts) ≡ c.line + length (here_at c o)
many_finished cpus lines receipts c o here is =
    rw (up_to cpus lines receipts c o here is, length-append)
    (rw (before_many cpus lines receipts c.line is.own is.within (is.passed nothing_known)))

pub finished_here : (cpus : ℕ) (lines : List Step) (receipts : List Receipt) (c : Cursor) (line : Step)
    (over : Bool)
    → slice_get lines c.line ≡ Some line → has_carried c line ≡ over → IsCursor cpus lines receipts c
    → c.line + cond over 1 0 ≡ length (answers_in cpus lines receipts)
finished_here cpus lines receipts c line over here at_end is =
    rw (many_finished cpus lines receipts c (Some line) here is, at_end) (elim over as (λ b.
    c.line + cond b 1 0 ≡ c.line + length (cond b (option_map Carried (end_in c.driver.stage) ∷ []) []))
    [ true ↦ refl | false ↦ refl ])
