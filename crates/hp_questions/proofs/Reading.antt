-- The ends of plans as they are read, reply by reply.
use Rattle.std.proofs.Common.{◌≡◌, ℕ, List, [], ◌∷◌, ◌++◌, length, Option, Some, None, refl, ap, sym, ◌∙◌}
use Rattle.std.specs.Option.{option_to_list}
use Rattle.std.proofs.lemmas.List.{append-nil, append_assoc}
use Rattle.std.proofs.lemmas.List.Sums.{fold-append}
use Rattle.hp_units.specs.Boot.{boot_memory}
use Rattle.hp_units.specs.LayoutParts.{LayoutParts}
use Rattle.hp_units.specs.Receipts.{receipts_of}
use Rattle.hp_units.specs.declared.events.Event.{Event}
use Rattle.hp_units.specs.declared.replies.OpEnd.{OpEnd}
use Rattle.hp_units.specs.declared.replies.Record.{Record}
use Rattle.hp_units.specs.declared.replies.Reply.{Reply}
use Rattle.hp_questions.specs.PlanEnds.{AreRead, end_finished, ends_answered, plan_ends, receipts_by, with_reply}
use Rattle.hp_schedules.specs.Cursors.{AreCursors, IsCalledFor}
use Rattle.hp_schedules.specs.LineAnswers.{IsAnswered, answers_at}
use Rattle.hp_schedules.specs.Schedules.{Setting, next_call}
use Rattle.hp_schedules.specs.Scripts.{next_of}
use Rattle.hp_schedules.specs.declared.cursors.Cursor.{Cursor}
use Rattle.hp_schedules.specs.declared.cursors.NextCall.{NextCall}
use Rattle.hp_schedules.specs.declared.line_answers.FinishedLine.{FinishedLine}
use Rattle.hp_schedules.specs.declared.line_answers.LineAnswer.{LineAnswer}
use Rattle.hp_schedules.specs.declared.scripts.Step.{Step}
use Rattle.hp_schedules.proofs.AnswersAt.{of_script}
use Rattle.hp_schedules.proofs.LineAnswers.{none_begun}
use Rattle.hp_schedules.proofs.Steps.{receipts_own}

-- ---- a setting for the script: any will do

abbrev layout_for : (cpus : ℕ) → LayoutParts
layout_for cpus = record {
  order = 0;
  pageblocks = 1;
  blocks = 0;
  cpus = cpus;
  batch = 0;
  high = 0;
  owners = 0;
  pages = 0;
  words = 0;
  history = 0;
  boot = [];
}

abbrev setting_for : (cpus : ℕ) → List Step → Setting
setting_for cpus lines = record {
  layout = layout_for cpus;
  base = boot_memory (layout_for cpus);
  before = 0;
  start = [];
  scripts = lines ∷ [];
}

-- the ends with further answers, and with one more
pub ends_append : (answers later : List (Option LineAnswer))
    → ends_answered (answers ++ later) ≡ ends_answered answers ++ ends_answered later
ends_append [] later = refl
ends_append (x ∷ answers) later = simp (ends_append answers later, append_assoc)

ends_more : (old new : List (Option LineAnswer)) (f : Option FinishedLine) → IsAnswered old f new
    → ends_answered new ≡ ends_answered old ++ option_to_list (end_finished f)
ends_more old new None same = rw (same, append-nil)
ends_more old new (Some f) is = rw (is.1, ends_append old (f.answer ∷ []), append-nil)

-- ---- the replies so far

-- the record of a call, without a serial
abbrev pub called : Event → Reply → Record
called event reply = record { serial = 0; cpu = 0; event = event; reply = reply }

module _ (cpus : ℕ) (lines : List Step) where
  pub read_none : (cursors : List Cursor) (ends : List OpEnd) → length cursors ≡ 1
      → ((g : Setting) → g.scripts ≡ lines ∷ [] → g.layout.cpus ≡ cpus → AreCursors g [] cursors) → ends ≡ []
      → AreRead cpus lines [] cursors [] ends
  unfolding plan_ends
  read_none cursors ends many begun none = record {
    many = many;
    at = begun;
    receipts = refl;
    ends_are = none ∙ ap ends_answered (sym (none_begun cpus lines));
  }

  abbrev g : Setting
  g = setting_for cpus lines

  module _ (cursors : List Cursor) (news : List Record) (replies : List Reply) (ends : List OpEnd)
      (reply : Reply) (a : AreRead cpus lines replies cursors news ends) where
    -- what the script calls next
    asked_for : (next : Option Event) → next_call g 0 news ≡ next
        → next_of cpus lines (receipts_by cpus lines replies) ≡ next
    unfolding next_call
    asked_for next is = rw (← a.receipts) is

    -- the receipts with one reply more
    receipts_more : receipts_by cpus lines (replies ++ reply ∷ [])
        ≡ with_reply cpus lines (receipts_by cpus lines replies) reply
    receipts_more = fold-append (with_reply cpus lines) [] replies (reply ∷ [])

    -- the script is over
    pub read_past : ((g : Setting) → g.scripts ≡ lines ∷ [] → g.layout.cpus ≡ cpus
        → AreCursors g news cursors → IsCalledFor g 0 news None)
        → AreRead cpus lines (replies ++ reply ∷ []) cursors news ends
    unfolding plan_ends
    read_past asked =
        let over = asked_for None (asked g refl refl (a.at g refl refl)) in
        let same : receipts_by cpus lines (replies ++ reply ∷ []) ≡ receipts_by cpus lines replies =
        rw (receipts_more, over) in
        record { many = a.many; at = a.at; receipts = rw same a.receipts; ends_are = rw same a.ends_are }

    -- one call more
    pub read_more : (later : List Cursor) (new : List OpEnd) (call : NextCall) (event : Event)
        (f : Option FinishedLine) → event ≡ call.event
        → ((g : Setting) → g.scripts ≡ lines ∷ [] → g.layout.cpus ≡ cpus
        → AreCursors g news cursors → IsCalledFor g 0 news (Some call))
        → length later ≡ length cursors
        → ((g : Setting) (news : List Record) → g.scripts ≡ lines ∷ [] → g.layout.cpus ≡ cpus
        → AreCursors g news cursors → IsCalledFor g 0 news (Some call)
        → AreCursors g (news ++ called event reply ∷ []) later)
        → ((g : Setting) (news : List Record) → g.scripts ≡ lines ∷ [] → next_call g 0 news ≡ Some event
        → AreCursors g (news ++ called event reply ∷ []) later
        → IsAnswered (answers_at g 0 news) f (answers_at g 0 (news ++ called event reply ∷ [])))
        → new ≡ ends ++ option_to_list (end_finished f)
        → AreRead cpus lines (replies ++ reply ∷ []) later (news ++ called event reply ∷ []) new
    unfolding plan_ends
    read_more later new call event f event_is asked many on answered new_is = record {
      many = many ∙ a.many;
      at = λ g s c. on g news s c (a.at g s c) (asked g s c (a.at g s c));
      receipts = receipts;
      ends_are =
          rw (
            new_is,
            a.ends_are,
            ← receipts,
            ← a.receipts,
            ← of_script g 0 news lines refl,
            ← of_script g 0 all lines refl,
          )
          (sym (ends_more (answers_at g 0 news) (answers_at g 0 all) f
          (answered g news refl next (on g news refl refl (a.at g refl refl)
          (asked g refl refl (a.at g refl refl))))));
    }
      where
        all : List Record
        all = news ++ called event reply ∷ []

        next : next_call g 0 news ≡ Some event
        next = rw event_is (asked g refl refl (a.at g refl refl)).0

        receipts : receipts_of 0 all ≡ receipts_by cpus lines (replies ++ reply ∷ [])
        receipts =
            rw (
              receipts_own news (called event reply),
              a.receipts,
              receipts_more,
              asked_for (Some event) next,
            )
