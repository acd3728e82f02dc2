-- The line that a call finished.
use Rattle.std.proofs.Common.{◌≡◌, ℕ, zero, suc, ◌+◌, true, false, cond, List, [], ◌∷◌, ◌++◌, length, take, drop, Option, Some, slice_get, refl, ap, sym, ◌∙◌, arith, inl, inr}
use Rattle.std.specs.Prelude.{option_map}
use Rattle.std.proofs.lemmas.Bool.{cases_Bool}
use Rattle.std.proofs.lemmas.List.{append-nil, append_assoc, length_push, same_from_push, take-append-drop, take_all}
use Rattle.std.proofs.lemmas.Option.{none-some, same_Some}
use Rattle.hp_laws.proofs.Lists.{get_some}
use Rattle.hp_laws.proofs.Replays.{take_one}
use Rattle.hp_ops.specs.Stages.{end_in, is_over}
use Rattle.hp_units.specs.declared.events.Event.{Event}
use Rattle.hp_units.specs.declared.replies.Receipt.{Receipt}
use Rattle.hp_schedules.specs.Cursors.{IsCursor, IsInFirst, IsSettled, carried, carries, is_carrying}
use Rattle.hp_schedules.specs.Interleavings.{is_one_call}
use Rattle.hp_schedules.specs.LineAnswers.{IsAnswered, answer_of, answers_in}
use Rattle.hp_schedules.specs.Scripts.{Known, after_line, after_lines, known_of, line_next, next_of, nothing_known}
use Rattle.hp_schedules.specs.declared.cursors.Cursor.{Cursor}
use Rattle.hp_schedules.specs.declared.line_answers.LineAnswer.{LineAnswer}
use Rattle.hp_schedules.specs.declared.line_answers.LineAnswer.TheVariants.{Reply as Replied, Plan as Carried}
use Rattle.hp_schedules.specs.declared.scripts.Step.{Step}
use Rattle.hp_schedules.specs.declared.scripts.Step.TheVariants.{Carry}
use Rattle.hp_schedules.proofs.AfterLines.{after_more, all_over, first_then, lines_before, lines_more, lines_parts}
use Rattle.hp_schedules.proofs.Asked.{at_first, lines_here}
use Rattle.hp_schedules.proofs.Begun.{IsPush, none_before, push_cases, some_after}
use Rattle.hp_schedules.proofs.LineAnswers.{answers_kept, answers_past, none_begun, without_is}
use Rattle.hp_laws.proofs.Options.{cases_option}
use Rattle.hp_schedules.proofs.OneCalls.{asks_once, finished_once}
use Rattle.hp_schedules.proofs.UpTo.{before_many, here_at, past_end, up_to}

-- ---- the line that a call finished

-- the last receipt is the last one that is left
split_last : (cpus : ℕ) (known : Known) (lines : List Step) (receipts front : List Receipt) (r last : Receipt)
    → after_lines cpus known lines (receipts ++ r ∷ []) ≡ Some (front ++ last ∷ [])
    → (after_lines cpus known lines receipts ≡ Some front) × (r ≡ last)
split_last cpus known lines receipts front r last is =
    let parts = lines_parts cpus known lines (receipts ++ r ∷ []) (front ++ last ∷ []) is in
    let same =
    same_from_push receipts (parts.own ++ front) r last
    (parts.whole ∙ sym (append_assoc parts.own front (last ∷ []))) in
    (rw same.0 (lines_more cpus known lines parts.own front [] parts.over), same.1)

-- a plan's line
pub carried_answered : (cpus : ℕ) (lines : List Step) (receipts : List Receipt) (r : Receipt) (c : Cursor)
    → IsCursor cpus lines (receipts ++ r ∷ []) c → is_carrying c lines ≡ true
    → IsAnswered (answers_in cpus lines receipts) (carried c) (answers_in cpus lines (receipts ++ r ∷ []))
carried_answered cpus lines receipts r c is carrying =
    elim (cases_option (slice_get lines c.line)) [
      | inl none ↦ absurd (let no : false ≡ true = rw none at carrying in cc)
      | inr line ↦ (let on : carries c line.0 ≡ true = rw line.1 at carrying in
          by_step line.0 line.1 on
          (pushed line.0 (at_first cpus lines (receipts ++ r ∷ []) c line.0 is line.1) on))
    ]
  where
    finish : (line : Step) (old new front : List (Option LineAnswer))
        → carries c line ≡ true → new ≡ front ++ here_at c (Some line) → old ≡ front → length front ≡ c.line
        → IsAnswered old (carried c) new
    finish line old new front on new_is old_is many = elim (cases_Bool (is_over c.driver.stage)) [
      | inl over ↦ rw over (sym many ∙ ap length (sym old_is), new_is ∙ rw (here_is, over, old_is))
      | inr on_still ↦ rw on_still (new_is ∙ rw (here_is, on_still, append-nil front, old_is))
    ]
      where
        here_is : here_at c (Some line)
            ≡ cond (is_over c.driver.stage) (option_map Carried (end_in c.driver.stage) ∷ []) []
        here_is = elim (cases_Bool (is_one_call line)) [
          | inl e ↦ absurd (let no : false ≡ true = rw e at on in cc)
          | inr e ↦ rw e
        ]

    -- before the call the line was not finished
    unfinished : (line : Step) (front : List Receipt) (last : Receipt) → is.own ≡ front ++ last ∷ []
        → IsInFirst cpus (line ∷ drop (c.line + 1) lines) is.own c.driver
        → answers_in cpus (line ∷ drop (c.line + 1) lines) front ≡ []
    unfinished line front last own_is at = elim (cases_option (after_line cpus nothing_known line [] front)) [
      | inl none ↦ rw none
      | inr rest ↦ (let none = ap length (ends (rest.0 ++ last ∷ [])
          (sym whole ∙ after_more cpus nothing_known line [] front (last ∷ []) rest.0 rest.1)) in
          absurd (omega (arith, length_push rest.0 last, none)))
    ]
      where
        whole : after_line cpus nothing_known line [] (front ++ last ∷ [])
            ≡ after_line cpus nothing_known line (front ++ last ∷ []) []
        whole =
            ap (after_line cpus nothing_known line []) (sym own_is ∙ sym (append-nil is.own))
            ∙ (at.1 nothing_known []
            ∙ ap (λ (xs : List Receipt). after_line cpus nothing_known line xs []) own_is)

        ends : (rest : List Receipt) → after_line cpus nothing_known line (front ++ last ∷ []) [] ≡ Some rest
            → rest ≡ []
        ends rest some = elim (cases_option (line_next cpus nothing_known line (front ++ last ∷ []))) [
          | inl none ↦ sym (same_Some [] rest (rw none at some))
          | inr e ↦ absurd (none-some rest (rw e.1 at some))
        ]

    by_step : (line : Step) → slice_get lines c.line ≡ Some line → carries c line ≡ true
        → IsPush is.own → IsAnswered (answers_in cpus lines receipts) (carried c)
        (answers_in cpus lines (receipts ++ r ∷ []))
    by_step line here on push =
        let split =
        split_last cpus nothing_known (take c.line lines) receipts push.front r push.last
        (is.passed nothing_known ∙ ap Some push.list_is) in
        let first = at_first cpus lines (receipts ++ r ∷ []) c line is here in
        finish line (answers_in cpus lines receipts) (answers_in cpus lines (receipts ++ r ∷ []))
        (answers_in cpus (take c.line lines) receipts) on
        (rw (up_to cpus lines (receipts ++ r ∷ []) c (Some line) here is)
        (rw (answers_kept cpus (take c.line lines) receipts (r ∷ []) push.front split.0)))
        (ap (λ (ls : List Step). answers_in cpus ls receipts) (sym (take-append-drop c.line lines))
        ∙ rw (answers_past cpus (take c.line lines) (drop c.line lines) receipts push.front split.0)
        (rw (lines_here lines c.line line here)
        (rw (unfinished line push.front push.last push.list_is first, append-nil))))
        (before_many cpus lines receipts c.line push.front is.within split.0)

    pushed : (line : Step) → IsInFirst cpus (line ∷ drop (c.line + 1) lines) is.own c.driver
        → carries c line ≡ true → IsPush is.own
    pushed (Carry plan turns) at on = some_after cpus turns is.own c.driver at.0 on
    pushed line at on = absurd cc

-- a line of one call
pub record Once (k_1 : ℕ) (old : List (Option LineAnswer)) (r : Receipt)
    (new : List (Option LineAnswer)) : Type 0 where
  pub place : ℕ
  pub at : k_1 ≡ place + 1
  pub many : place ≡ length old
  pub more : new ≡ old ++ Some (Replied r.reply) ∷ []

-- at the beginning of a line all receipts are taken
nothing_left : (cpus : ℕ) (lines : List Step) (receipts : List Receipt) (r : Receipt) (c : Cursor) (e : Event)
    (is : IsCursor cpus lines (receipts ++ r ∷ []) c)
    → is_carrying c lines ≡ false → next_of cpus lines receipts ≡ Some e → is.own ≡ []
nothing_left cpus lines receipts r c e is off asked =
    elim (cases_option (slice_get lines c.line)) [
      | inl none ↦ elim (push_cases is.own) [
        | inl empty ↦ empty
        | inr push ↦ absurd (let split =
            split_last cpus (known_of receipts) lines receipts push.front r push.last
            ((rw (take_all c.line lines (past_end lines c.line none)) at (is.passed (known_of receipts)))
            ∙ ap Some push.list_is) in
            none-some e (sym (all_over cpus (known_of receipts) lines receipts push.front split.0) ∙ asked))
      ]
      | inr line ↦
          at_line line.0 (at_first cpus lines (receipts ++ r ∷ []) c line.0 is line.1) (rw line.1 at off)
    ]
  where
    at_line : (line : Step) → IsInFirst cpus (line ∷ drop (c.line + 1) lines) is.own c.driver
        → carries c line ≡ false → is.own ≡ []
    at_line (Carry plan turns) at none = none_before cpus turns is.own c.driver at.0 none
    at_line line at none = at.0

-- a line of one call that all receipts finish took the last of them
took_last : (cpus : ℕ) (lines : List Step) (receipts : List Receipt) (r : Receipt) (k : ℕ) (line : Step)
    → slice_get lines k ≡ Some line → is_one_call line ≡ true
    → after_lines cpus nothing_known (take (k + 1) lines) (receipts ++ r ∷ []) ≡ Some []
    → after_lines cpus nothing_known (take k lines) receipts ≡ Some []
took_last cpus lines receipts r k line here one passed =
    let split =
    lines_before cpus nothing_known (take k lines) (line ∷ []) (receipts ++ r ∷ []) []
    (rw (take_one lines k line here) at passed) in
    let parts = first_then cpus nothing_known line [] split.left [] split.then in
    by_left split.left split.before (parts.first ∙ parts.others)
  where
    by_left : (left : List Receipt) → after_lines cpus nothing_known (take k lines) (receipts ++ r ∷ [])
        ≡ Some left
        → after_line cpus nothing_known line [] left ≡ Some []
        → after_lines cpus nothing_known (take k lines) receipts ≡ Some []
    by_left [] before ends =
        let first = asks_once cpus nothing_known line one in absurd (none-some [] (rw first.1 at ends))
    by_left (x ∷ xs) before ends =
        let alone : xs ≡ [] = same_Some xs [] (sym (finished_once cpus nothing_known line x xs one) ∙ ends) in
        (split_last cpus nothing_known (take k lines) receipts [] r x (rw alone at before)).0

pub once_answered : (cpus : ℕ) (lines : List Step) (receipts : List Receipt) (r : Receipt) (c : Cursor)
    (e : Event)
    → IsSettled lines c → IsCursor cpus lines (receipts ++ r ∷ []) c → is_carrying c lines ≡ false
    → next_of cpus lines receipts ≡ Some e
    → Once c.line (answers_in cpus lines receipts) r (answers_in cpus lines (receipts ++ r ∷ []))
once_answered cpus lines receipts r c e settles is off asked = by_place c.line refl
  where
    passed : after_lines cpus nothing_known (take c.line lines) (receipts ++ r ∷ []) ≡ Some []
    passed = is.passed nothing_known ∙ ap Some (nothing_left _ _ _ r c e is off asked)

    at : (k : ℕ) (line : Step) → c.line ≡ k + 1 → slice_get lines k ≡ Some line → is_one_call line ≡ true
        → after_lines cpus nothing_known (take k lines) receipts ≡ Some []
        → Once c.line (answers_in cpus lines receipts) r (answers_in cpus lines (receipts ++ r ∷ []))
    at k line place here one before = record {
      place = k;
      at = place;
      many =
          sym (ap length old ∙ before_many cpus lines receipts k [] (omega (arith, place, is.within)) before);
      more = rw old new;
    }
      where
        parts : (rs left : List Receipt) → after_lines cpus nothing_known (take k lines) rs ≡ Some left
            → answers_in cpus lines rs
            ≡ answers_in cpus (take k lines) rs ++ answers_in cpus (line ∷ drop (k + 1) lines) left
        parts rs left passes =
            ap (λ (ls : List Step). answers_in cpus ls rs) (sym (take-append-drop k lines))
            ∙ rw (answers_past _ _ (drop k lines) _ _ passes) (rw (lines_here _ k _ here))

        old : answers_in cpus lines receipts ≡ answers_in cpus (take k lines) receipts
        old = rw (parts receipts [] before, none_begun cpus (line ∷ drop (k + 1) lines), append-nil)

        reply : (l : Step) → is_one_call l ≡ true → answer_of l (r ∷ []) ≡ Some (Replied r.reply)
        reply (Carry plan turns) single = absurd cc
        reply l single = refl

        one_more : answers_in cpus (line ∷ drop (k + 1) lines) (r ∷ []) ≡ Some (Replied r.reply) ∷ []
        one_more =
            rw (finished_once cpus nothing_known line r [] one, none_begun cpus (drop (k + 1) lines))
            (ap (λ (a : Option LineAnswer). a ∷ [])
            (ap (answer_of line) (without_is (r ∷ []) []) ∙ reply line one))

        new : answers_in cpus lines (receipts ++ r ∷ [])
            ≡ answers_in cpus (take k lines) receipts ++ Some (Replied r.reply) ∷ []
        new =
            let fed = lines_more cpus nothing_known (take k lines) receipts (r ∷ []) [] before in
            rw (parts _ _ fed) (rw (answers_kept cpus (take k lines) receipts (r ∷ []) [] before, one_more))

    by_place : (n : ℕ) → c.line ≡ n
        → Once c.line (answers_in cpus lines receipts) r (answers_in cpus lines (receipts ++ r ∷ []))
    by_place zero first =
        let none = ap length (same_Some (receipts ++ r ∷ []) [] (rw first at passed)) in
        absurd (omega (arith, length_push receipts r, none))
    by_place (suc k) next =
        let place : c.line ≡ k + 1 = omega (arith, next) in
        let line = get_some lines k (omega (arith, place, is.within)) in
        let one = settles off k line.0 place line.1 in
        at k _ place line.1 one (took_last _ _ _ r k _ line.1 one (rw place at passed))
