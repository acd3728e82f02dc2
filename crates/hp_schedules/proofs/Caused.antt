-- Positions with equal numbers: the same further receipts give their lines the same answers.
use Rattle.std.proofs.Common.{◌≡◌, ℕ, ◌+◌, Bool, eqb, map, true, false, List, [], ◌∷◌, ◌++◌, length, take, drop, Option, Some, None, slice_get, refl, sym, ◌∙◌, ◌⊎◌, inl, inr, arith}
use Rattle.std.proofs.lemmas.Bool.{ne_eqb}
use Rattle.std.proofs.lemmas.List.{append_assoc, length-append, take-append-drop}
use Rattle.std.proofs.lemmas.Option.{none-some}
use Rattle.hp_ops.specs.Stages.{event_in, is_over, stage_number}
use Rattle.hp_ops.specs.declared.stages.Stage.{Stage}
use Rattle.hp_ops.specs.declared.stages.Stage.TheVariants.{DrainFor as DrainsFor}
use Rattle.hp_ops.specs.declared.stages.Driver.{Driver}
use Rattle.hp_units.specs.Driver.{end_of}
use Rattle.hp_units.specs.Receipts.{receipts_of}
use Rattle.hp_units.specs.declared.events.Event.{Event}
use Rattle.hp_units.specs.declared.plans.Item.{Item}
use Rattle.hp_units.specs.declared.replies.Receipt.{Receipt}
use Rattle.hp_units.specs.declared.replies.Record.{Record}
use Rattle.hp_schedules.specs.Continuing.{AreSameReceipts, anonymous_record}
use Rattle.hp_schedules.specs.Causes.{AnswerAlike, IsCaused, cause_at, cause_in}
use Rattle.hp_schedules.specs.Cursors.{IsCursor, IsInFirst, IsSteered, frames_ahead, steering_of}
use Rattle.hp_schedules.specs.LineAnswers.{answer_of, answers_at, answers_in, without}
use Rattle.hp_schedules.specs.Schedules.{Setting}
use Rattle.hp_schedules.specs.Scripts.{after_line, after_lines, nothing_known}
use Rattle.hp_schedules.specs.Starts.{same_starts}
use Rattle.hp_schedules.specs.declared.cursors.Cursor.{Cursor}
use Rattle.hp_schedules.specs.declared.line_answers.LineAnswer.{LineAnswer}
use Rattle.hp_schedules.specs.declared.scripts.Step.{Step}
use Rattle.hp_schedules.specs.declared.scripts.Step.TheVariants.{Ask, Own, Carry}
use Rattle.hp_schedules.proofs.AfterLines.{after_parts, lines_more}
use Rattle.hp_schedules.proofs.AnswersAt.{of_script}
use Rattle.hp_schedules.proofs.Asked.{own_over, plan_on}
use Rattle.hp_schedules.proofs.Begun.{IsPush, asks_none, asks_some, push_cases}
use Rattle.hp_schedules.proofs.CausesAt.{cause_from, cause_of_script, same_cause}
use Rattle.hp_schedules.proofs.LineAnswers.{answers_kept, answers_past, first_more, none_begun, receipts_later, without_is}
use Rattle.hp_schedules.proofs.Lines.{goes_on_all}
use Rattle.hp_schedules.proofs.RenumberedLines.{AreSameRests, rest_alike}
use Rattle.hp_schedules.proofs.SameAnswers.{answers_same, end_alike, nameless, receipts_same, without_same}
use Rattle.hp_schedules.proofs.Steering.{AreSameDrivers, drivers_ask}
use Rattle.hp_schedules.proofs.UpTo.{before_many}

-- ---- stages

-- a stage is the last one by its number
over_by : (s : Stage) → is_over s ≡ eqb (stage_number s) 4
over_by (DrainsFor op cpu) = sym (ne_eqb (5 + cpu) 4 (λ same. omega arith))
over_by s = refl

over_same : (d e : Stage) → stage_number d ≡ stage_number e → is_over d ≡ is_over e
over_same d e same = rw (over_by d, over_by e, same)

-- ---- lines from a cursor on

-- the same further receipts give the same further answers
record Later (cpus : ℕ) (lines : List Step) (xs ys later others : List Receipt) : Type 0 where
  many : length (answers_in cpus lines xs) ≡ length (answers_in cpus lines ys)
  added : List (Option LineAnswer)
  first : answers_in cpus lines (xs ++ later) ≡ answers_in cpus lines xs ++ added
  second : answers_in cpus lines (ys ++ others) ≡ answers_in cpus lines ys ++ added

-- before the first receipt
from_none : (cpus : ℕ) (lines : List Step) (later others : List Receipt)
    → AreSameReceipts nameless nameless later others → Later cpus lines [] [] later others
from_none cpus lines later others are = record {
  many = refl;
  added = answers_in cpus lines later;
  first = rw (none_begun cpus lines);
  second = rw (none_begun cpus lines) (sym (answers_same nameless nameless cpus lines later others are));
}

-- after a plan
from_over : (cpus : ℕ) (line : Step) (lines : List Step) (xs ys later others : List Receipt)
    → after_line cpus nothing_known line [] xs ≡ Some [] → after_line cpus nothing_known line [] ys ≡ Some []
    → AreSameReceipts nameless nameless later others → Later cpus (line ∷ lines) xs ys later others
from_over cpus line lines xs ys later others x_over y_over are = record {
  many = rw (one xs x_over, one ys y_over);
  added = answers_in cpus lines later;
  first = more xs later x_over;
  second = rw (answers_same nameless nameless cpus lines later others are) (more ys others y_over);
}
  where
    one : (zs : List Receipt) → after_line cpus nothing_known line [] zs ≡ Some []
        → answers_in cpus (line ∷ lines) zs ≡ answer_of line (without zs []) ∷ []
    one zs over = rw (over, none_begun cpus lines)

    more : (zs given : List Receipt) → after_line cpus nothing_known line [] zs ≡ Some []
        → answers_in cpus (line ∷ lines) (zs ++ given)
        ≡ answers_in cpus (line ∷ lines) zs ++ answers_in cpus lines given
    more zs given over = rw (one zs over) (first_more cpus line lines zs given [] over)

-- ---- in a plan

-- the answers after further receipts of a plan that is in progress
from_on : (cpus turns : ℕ) (plan : List Item) (lines : List Step) (xs ys later others : List Receipt)
    (d e : Driver)
    → AreSameDrivers nameless nameless d e → IsInFirst cpus (Carry plan turns ∷ lines) xs d
    → IsInFirst cpus (Carry plan turns ∷ lines) ys e
    → cause_in cpus (Carry plan turns ∷ lines) xs ≡ cause_in cpus (Carry plan turns ∷ lines) ys
    → is_over d.stage ≡ false → AreSameReceipts nameless nameless later others
    → Later cpus (Carry plan turns ∷ lines) xs ys later others
from_on cpus turns plan lines xs ys later others d e key x_at y_at same on are = record {
  many = rw (x_on, y_on);
  added = answers_in cpus (Carry plan turns ∷ lines) (xs ++ later);
  first = rw x_on;
  second =
      rw y_on (sym (by_rests (after_line cpus nothing_known (Carry plan turns) xs later)
      (after_line cpus nothing_known (Carry plan turns) ys others) refl refl
      (rest_alike nameless nameless cpus nothing_known nothing_known turns plan xs ys later others are
      (record {
        next = rw (← x_at.0.next plan, ← y_at.0.next plan) (drivers_ask nameless nameless d e plan key);
        left = sym x_at.0.left ∙ (key.left ∙ y_at.0.left);
      }))));
}
  where
    next : (event : Event) × (event_in plan d.stage ≡ Some event)
    next = asks_some d.stage plan on

    other : (event : Event) × (event_in plan e.stage ≡ Some event)
    other = asks_some e.stage plan (sym (over_same d.stage e.stage key.stage) ∙ on)

    x_on : after_line cpus nothing_known (Carry plan turns) [] xs ≡ None
    x_on = plan_on cpus turns nothing_known plan lines xs d next.0 x_at next.1

    y_on : after_line cpus nothing_known (Carry plan turns) [] ys ≡ None
    y_on = plan_on cpus turns nothing_known plan lines ys e other.0 y_at other.1

    taken : (zs given own rest : List Receipt) → given ≡ own ++ rest → without (zs ++ given) rest ≡ zs ++ own
    taken zs given own rest whole = rw whole (rw append_assoc at (without_is (zs ++ own) rest))

    some_taken : (own : List Receipt) → after_line cpus nothing_known (Carry plan turns) xs own ≡ Some []
        → (own ≡ []) ⊎ IsPush own → IsPush own
    some_taken own over (inl none) =
        absurd (none-some [] (sym (goes_on_all cpus nothing_known (Carry plan turns) xs next.0
        (sym (x_at.0.next plan) ∙ next.1)) ∙ (rw none at over)))
    some_taken own over (inr push) = push

    by_rests : (o u : Option (List Receipt))
        → after_line cpus nothing_known (Carry plan turns) xs later ≡ o
        → after_line cpus nothing_known (Carry plan turns) ys others ≡ u
        → AreSameRests nameless nameless o u
        → answers_in cpus (Carry plan turns ∷ lines) (xs ++ later)
        ≡ answers_in cpus (Carry plan turns ∷ lines) (ys ++ others)
    by_rests None None none other rests =
        rw (x_at.1 nothing_known later ∙ none, y_at.1 nothing_known others ∙ other)
    by_rests (Some rest) (Some left) some other rests =
        let parts = after_parts cpus nothing_known (Carry plan turns) xs later rest some in
        let given = after_parts cpus nothing_known (Carry plan turns) ys others left other in
        let own =
        rw (taken [] later parts.own rest parts.whole, taken [] others given.own left given.whole) at
        (without_same nameless nameless later others rest left are rests) in
        let ends : end_of (without (xs ++ later) rest) ≡ end_of (without (ys ++ others) left) =
        rw (taken xs later parts.own rest parts.whole, taken ys others given.own left given.whole)
        (end_alike nameless nameless xs ys parts.own given.own
        (some_taken parts.own parts.over (push_cases parts.own)) own
        (rw (x_on, y_on) at same)) in
        rw (x_at.1 nothing_known later ∙ some, y_at.1 nothing_known others ∙ other)
        (rw (answers_same nameless nameless cpus lines rest left rests, ends))
    by_rests o u some other rests = absurd rests

-- ---- whatever the line

later_alike : (cpus : ℕ) (lines : List Step) (xs ys later others : List Receipt) (d e : Driver)
    → AreSameDrivers nameless nameless d e → IsInFirst cpus lines xs d → IsInFirst cpus lines ys e
    → cause_in cpus lines xs ≡ cause_in cpus lines ys → AreSameReceipts nameless nameless later others
    → Later cpus lines xs ys later others
later_alike cpus [] xs ys later others d e key x_at y_at same are =
    record { many = refl; added = []; first = refl; second = refl }
later_alike cpus (Ask event ∷ lines) xs ys later others d e key x_at y_at same are =
    rw (x_at.0, y_at.0) (from_none cpus (Ask event ∷ lines) later others are)
later_alike cpus (Own work ∷ lines) xs ys later others d e key x_at y_at same are =
    rw (x_at.0, y_at.0) (from_none cpus (Own work ∷ lines) later others are)
later_alike cpus (Carry plan turns ∷ lines) xs ys later others d e key x_at y_at same are =
    by_end (is_over d.stage) refl
  where
    over : (zs : List Receipt) (f : Driver) → IsInFirst cpus (Carry plan turns ∷ lines) zs f
        → event_in plan f.stage ≡ None → after_line cpus nothing_known (Carry plan turns) [] zs ≡ Some []
    over zs f at none =
        own_over cpus nothing_known [] (Carry plan turns) lines zs (record { line = 0; op = 0; driver = f })
        at none

    by_end : (b : Bool) → is_over d.stage ≡ b → Later cpus (Carry plan turns ∷ lines) xs ys later others
    by_end true ended =
        from_over _ _ lines _ _ _ _ (over _ d x_at (asks_none _ plan ended)) (over _ e y_at
        (asks_none _ plan (sym (over_same _ _ key.stage) ∙ ended))) are
    by_end false on = from_on _ _ _ _ _ _ _ _ d e key x_at y_at same on are

-- ---- scripts

-- by the lines from the cursors on
script_alike : (p q : ℕ → ℕ) (cpus : ℕ) (lines : List Step) (h k later others : List Receipt) (a b : Cursor)
    → IsCursor cpus lines h a → IsCursor cpus lines k b → steering_of p a ≡ steering_of q b
    → cause_in cpus lines h ≡ cause_in cpus lines k → AreSameReceipts nameless nameless later others
    → Later cpus lines h k later others
script_alike p q cpus lines h k later others a b first second same causes are = record {
  many =
      rw (whole h a.line first.own (first.passed nothing_known), whole k a.line second.own second_passed)
      (rw (length-append, length-append) (omega (arith, a_many, b_many, on.many)));
  added = on.added;
  first = joined h first.own later (first.passed nothing_known) on.first;
  second = joined k second.own others second_passed on.second;
}
  where
    line : a.line ≡ b.line
    line = cc

    second_passed : after_lines cpus nothing_known (take a.line lines) k ≡ Some second.own
    second_passed = rw line (second.passed nothing_known)

    on : Later cpus (drop a.line lines) first.own second.own later others
    on =
        later_alike cpus (drop a.line lines) first.own second.own later others a.driver b.driver
        (record { left = cc; stage = cc; op = refl }) first.here (rw line second.here)
        (rw (cause_from cpus lines h a first, cause_from cpus lines k b second, ← line) at causes) are

    whole : (rs : List Receipt) (n : ℕ) (own : List Receipt)
        → after_lines cpus nothing_known (take n lines) rs ≡ Some own
        → answers_in cpus lines rs ≡ answers_in cpus (take n lines) rs ++ answers_in cpus (drop n lines) own
    whole rs n own passed =
        rw take-append-drop at (answers_past cpus (take n lines) (drop n lines) rs own passed)

    joined : (rs own given : List Receipt) → after_lines cpus nothing_known (take a.line lines) rs ≡ Some own
        → answers_in cpus (drop a.line lines) (own ++ given)
        ≡ answers_in cpus (drop a.line lines) own ++ on.added
        → answers_in cpus lines (rs ++ given) ≡ answers_in cpus lines rs ++ on.added
    joined rs own given passed is =
        let after = lines_more cpus nothing_known (take a.line lines) rs given own passed in
        rw (whole (rs ++ given) a.line (own ++ given) after, whole rs a.line own passed)
        (rw (answers_kept cpus (take a.line lines) rs given own passed, is)
        (sym (append_assoc (answers_in cpus (take a.line lines) rs)
        (answers_in cpus (drop a.line lines) own) on.added)))

    a_many : length (answers_in cpus (take a.line lines) h) ≡ a.line
    a_many = before_many cpus lines h a.line first.own first.within (first.passed nothing_known)

    b_many : length (answers_in cpus (take a.line lines) k) ≡ a.line
    b_many =
        before_many cpus lines k a.line second.own (omega (arith, line, second.within)) second_passed

pub answer_alike : (p q : ℕ → ℕ) (g : Setting) (cpu : ℕ) (h k more others : List Record)
    (steering causes : List ℕ)
    → IsSteered p g cpu h steering → IsSteered q g cpu k steering → IsCaused g cpu h causes
    → IsCaused g cpu k causes → map anonymous_record more ≡ map anonymous_record others
    → AnswerAlike g cpu h k more others
unfolding answers_at
answer_alike p q g cpu h k more others steering causes first second one other are =
    by_script (slice_get g.scripts cpu) refl
  where
    none_at : (news : List Record) → slice_get g.scripts cpu ≡ None → answers_at g cpu news ≡ []
    none_at news none = rw (none, answers_at)

    cause : cause_at g cpu h ≡ cause_at g cpu k
    cause = same_cause (cause_at g cpu h) (cause_at g cpu k) (sym one ∙ other)

    by_script : (o : Option (List Step)) → slice_get g.scripts cpu ≡ o → AnswerAlike g cpu h k more others
    by_script None here = record {
      many = rw (none_at h here, none_at k here);
      later = [];
      first = rw (none_at (h ++ more) here, none_at h here);
      second = rw (none_at (k ++ others) here, none_at k here);
    }
    by_script (Some lines) here =
        let a = first lines here in
        let b = second lines here in
        let on =
        script_alike p q g.layout.cpus lines (receipts_of cpu h) (receipts_of cpu k) (receipts_of cpu more)
        (receipts_of cpu others) a.0 b.0 a.1 b.1
        (same_starts (steering_of p a.0) (frames_ahead a.0 lines (receipts_of cpu h)) (steering_of q b.0)
        (frames_ahead b.0 lines (receipts_of cpu k)) refl (sym a.2 ∙ b.2)).0
        (sym (cause_of_script g cpu h lines here) ∙ (cause ∙ cause_of_script g cpu k lines here))
        (receipts_same cpu more others are) in
        record {
          many = rw (of_script g cpu h lines here, of_script g cpu k lines here) on.many;
          later = on.added;
          first = at h more lines here on.added on.first;
          second = at k others lines here on.added on.second;
        }
      where
        at : (news given : List Record) (lines : List Step) → slice_get g.scripts cpu ≡ Some lines
            → (added : List (Option LineAnswer))
            → answers_in g.layout.cpus lines (receipts_of cpu news ++ receipts_of cpu given)
            ≡ answers_in g.layout.cpus lines (receipts_of cpu news) ++ added
            → answers_at g cpu (news ++ given) ≡ answers_at g cpu news ++ added
        at news given lines here added is =
            rw (of_script g cpu (news ++ given) lines here, receipts_later cpu news given)
            (rw (is, of_script g cpu news lines here))
