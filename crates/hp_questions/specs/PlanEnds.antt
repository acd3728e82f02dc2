-- The ends of a script's plans, computed from the replies to its processor alone.
use Rattle.std.specs.Prelude.{◌≡◌, ℕ, List, [], ◌∷◌, ◌++◌, Option, Some, None, fold, length, map, slice_index_or}
use Rattle.std.specs.List.{range_with_len}
use Rattle.std.specs.Option.{option_and_then, option_map_or, option_to_list}
use Rattle.hp_units.specs.Receipts.{receipts_of}
use Rattle.hp_units.specs.declared.replies.OpEnd.{OpEnd}
use Rattle.hp_units.specs.declared.replies.Receipt.{Receipt}
use Rattle.hp_units.specs.declared.replies.Record.{Record}
use Rattle.hp_units.specs.declared.replies.Reply.{Reply}
use Rattle.hp_schedules.specs.Cursors.{AreCursors}
use Rattle.hp_schedules.specs.LineAnswers.{answers_in}
use Rattle.hp_schedules.specs.Schedules.{Setting}
use Rattle.hp_schedules.specs.Scripts.{next_of}
use Rattle.hp_schedules.specs.declared.cursors.Cursor.{Cursor}
use Rattle.hp_schedules.specs.declared.line_answers.FinishedLine.{FinishedLine}
use Rattle.hp_schedules.specs.declared.line_answers.LineAnswer.{LineAnswer}
use Rattle.hp_schedules.specs.declared.line_answers.LineAnswer.TheVariants.{Plan as Carried}
use Rattle.hp_schedules.specs.declared.scripts.Step.{Step}

-- the receipts after one more reply, which is the reply to the script's next call; a finished script
-- has no next call, and its receipts stay
abbrev pub with_reply : (cpus : ℕ) → List Step → List Receipt → Reply → List Receipt
with_reply cpus lines receipts reply =
    option_map_or (λ event. receipts ++ record { serial = 0; event = event; reply = reply } ∷ [])
    (next_of cpus lines receipts) receipts

-- the receipts of a script's calls, given the replies to them, with 0 for each serial
abbrev pub receipts_by : (cpus : ℕ) → List Step → List Reply → List Receipt
receipts_by cpus lines replies = fold (with_reply cpus lines) [] replies

-- the end of a plan, if the answer is one
abbrev pub end_answered : Option LineAnswer → Option OpEnd
end_answered (Some (Carried end)) = Some end
end_answered answer = None

-- the end of the plan that a call finished; None if it finished none
abbrev pub end_finished : Option FinishedLine → Option OpEnd
end_finished f = option_and_then (λ line. end_answered line.answer) f

-- the ends of plans among the answers, in their order
abbrev pub ends_answered : List (Option LineAnswer) → List OpEnd
ends_answered [] = []
ends_answered (answer ∷ answers) = option_to_list (end_answered answer) ++ ends_answered answers

-- the ends of a script's finished plans, in the order of its lines
unfoldable pub plan_ends : (cpus : ℕ) → List Step → List Reply → List OpEnd
plan_ends cpus lines replies = ends_answered (answers_in cpus lines (receipts_by cpus lines replies))

-- the replies are read: `news` has the script's calls that got them, the one cursor is the script's
-- position after these calls, and the ends are those of the replies
pub record AreRead (cpus : ℕ) (lines : List Step) (replies : List Reply) (cursors : List Cursor)
    (news : List Record) (ends : List OpEnd) : Type 0 where
  pub many : length cursors ≡ 1
  pub at : (g : Setting) → g.scripts ≡ lines ∷ [] → g.layout.cpus ≡ cpus → AreCursors g news cursors
  pub receipts : receipts_of 0 news ≡ receipts_by cpus lines replies
  pub ends_are : ends ≡ plan_ends cpus lines replies

-- the ends of the plans of this processor's script, from the replies to each processor
abbrev pub plan_ends_of : (cpus : ℕ) → List (List Step) → List (List Reply) → (cpu : ℕ) → List OpEnd
plan_ends_of cpus scripts all cpu =
    plan_ends cpus (slice_index_or scripts cpu []) (slice_index_or all cpu [])

-- the ends of the plans of each script, from processor 0 on
abbrev pub all_plan_ends : (cpus : ℕ) → List (List Step) → List (List Reply) → List (List OpEnd)
all_plan_ends cpus scripts all = map (plan_ends_of cpus scripts all) (range_with_len 0 (length scripts))
