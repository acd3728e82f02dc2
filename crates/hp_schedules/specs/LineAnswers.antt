-- The answers to the finished lines of a script.
use Rattle.std.specs.Prelude.{◌≡◌, ℕ, ◌-◌, List, [], ◌∷◌, ◌++◌, Option, Some, None, length, take, slice_get, option_map}
use Rattle.std.specs.Option.{option_map_or}
use Rattle.hp_units.specs.Driver.{end_of}
use Rattle.hp_units.specs.Receipts.{receipts_of}
use Rattle.hp_units.specs.declared.replies.Receipt.{Receipt}
use Rattle.hp_units.specs.declared.replies.Record.{Record}
use Rattle.hp_schedules.specs.Schedules.{Setting}
use Rattle.hp_schedules.specs.Scripts.{after_line, nothing_known}
use Rattle.hp_schedules.specs.declared.line_answers.FinishedLine.{FinishedLine}
use Rattle.hp_schedules.specs.declared.line_answers.LineAnswer.{LineAnswer}
use Rattle.hp_schedules.specs.declared.line_answers.LineAnswer.TheVariants.{Reply as Replied, Plan as Carried}
use Rattle.hp_schedules.specs.declared.scripts.Step.{Step}
use Rattle.hp_schedules.specs.declared.scripts.Step.TheVariants.{Carry}

-- the answer to a line that is finished with its receipts `own`: either how its plan ended or the reply
-- to its call; None after replies that no machine gives
abbrev pub answer_of : Step → List Receipt → Option LineAnswer
answer_of (Carry plan turns) own = option_map Carried (end_of own)
answer_of line own = option_map (λ r. Replied r.reply) (slice_get own 0)

-- the receipts without the last ones, `rest`
abbrev pub without : (receipts rest : List Receipt) → List Receipt
without receipts rest = take (length receipts - length rest) receipts

-- the answers to the finished lines, in order. `receipts` are those of the processor since the
-- first of the lines began. Whether a line is finished does not depend on which operation or frame
-- it works on
abbrev pub answers_in : (cpus : ℕ) → List Step → List Receipt → List (Option LineAnswer)
answers_in cpus [] receipts = []
answers_in cpus (line ∷ lines) receipts =
    option_map_or (λ rest. answer_of line (without receipts rest) ∷ answers_in cpus lines rest)
    (after_line cpus nothing_known line [] receipts) []

-- the answers to a processor's finished lines after the new records; none without a script
unfoldable pub answers_at : Setting → (cpu : ℕ) → List Record → List (Option LineAnswer)
answers_at g cpu news =
    option_map_or (λ lines. answers_in g.layout.cpus lines (receipts_of cpu news)) (slice_get g.scripts cpu)
    []

-- one more call finished either no line or the next one, whose answer is added
abbrev pub IsAnswered : (old : List (Option LineAnswer)) → Option FinishedLine
    → (new : List (Option LineAnswer)) → Type 0
IsAnswered old None new = new ≡ old
IsAnswered old (Some f) new = (f.line ≡ length old) × (new ≡ old ++ f.answer ∷ [])

-- answers are only added
abbrev pub Grow : (old new : List (Option LineAnswer)) → Type 0
Grow old new = (later : List (Option LineAnswer)) × (new ≡ old ++ later)
