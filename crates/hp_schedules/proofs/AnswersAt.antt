-- Answers at the positions of all processors.
use Rattle.std.proofs.Common.{◌≡◌, ℕ, List, [], ◌∷◌, ◌++◌, length, Option, Some, slice_get, refl, ap, sym, ◌∙◌}
use Rattle.hp_units.specs.Receipts.{receipt_of, receipts_of}
use Rattle.hp_units.specs.declared.replies.Receipt.{Receipt}
use Rattle.hp_units.specs.declared.replies.Record.{Record}
use Rattle.hp_schedules.specs.Cursors.{AreCursors, IsCursor, IsSettled}
use Rattle.hp_schedules.specs.LineAnswers.{IsAnswered, answers_at, answers_in}
use Rattle.hp_schedules.specs.Schedules.{Setting, next_call}
use Rattle.hp_schedules.specs.Scripts.{next_of}
use Rattle.hp_schedules.specs.declared.cursors.Cursor.{Cursor}
use Rattle.hp_schedules.specs.declared.line_answers.FinishedLine.{FinishedLine}
use Rattle.hp_schedules.specs.declared.scripts.Step.{Step}
use Rattle.hp_schedules.proofs.Placed.{asked_is}
use Rattle.hp_schedules.proofs.Steps.{receipts_own}

-- those of a script
pub of_script : (g : Setting) (cpu : ℕ) (news : List Record) (lines : List Step)
    → slice_get g.scripts cpu ≡ Some lines
    → answers_at g cpu news ≡ answers_in g.layout.cpus lines (receipts_of cpu news)
unfolding answers_at
of_script g cpu news lines here = rw here

pub finished_at : (g : Setting) (cpu : ℕ) (news : List Record) (lines : List Step) (cursors : List Cursor)
    (cursor : Cursor) (n : ℕ)
    → slice_get g.scripts cpu ≡ Some lines → slice_get cursors cpu ≡ Some cursor → AreCursors g news cursors
    → ((cpus : ℕ) (receipts : List Receipt) → IsCursor cpus lines receipts cursor
    → n ≡ length (answers_in cpus lines receipts))
    → n ≡ length (answers_at g cpu news)
finished_at g cpu news lines cursors cursor n here there all counts =
    counts g.layout.cpus (receipts_of cpu news) (all.each cpu lines cursor here there)
    ∙ ap length (sym (of_script g cpu news lines here))

pub answered_at : (g : Setting) (news : List Record) (r : Record) (lines : List Step) (cursors : List Cursor)
    (cursor : Cursor) (f : Option FinishedLine)
    → slice_get g.scripts r.cpu ≡ Some lines → slice_get cursors r.cpu ≡ Some cursor
    → next_call g r.cpu news ≡ Some r.event → AreCursors g (news ++ r ∷ []) cursors
    → ((cpus : ℕ) (receipts : List Receipt) (x : Receipt) → x.reply ≡ r.reply
    → next_of cpus lines receipts ≡ Some x.event → IsCursor cpus lines (receipts ++ x ∷ []) cursor
    → IsSettled lines cursor
    → IsAnswered (answers_in cpus lines receipts) f (answers_in cpus lines (receipts ++ x ∷ [])))
    → IsAnswered (answers_at g r.cpu news) f (answers_at g r.cpu (news ++ r ∷ []))
answered_at g news r lines cursors cursor f here there called all answers =
    rw (of_script g r.cpu news lines here, of_script g r.cpu (news ++ r ∷ []) lines here)
    (rw (receipts_own news r) (answers g.layout.cpus (receipts_of r.cpu news) (receipt_of r) refl
    (sym (asked_is g news g.layout.cpus r.cpu lines
    (next_of g.layout.cpus lines (receipts_of r.cpu news)) refl here refl) ∙ called)
    (rw (receipts_own news r) at (all.each r.cpu lines cursor here there))
    (all.settled r.cpu lines cursor here there)))
