-- The last refusal that the plan in progress met, and its numbers.
use Rattle.std.specs.Prelude.{◌≡◌, ℕ, cond, List, [], ◌∷◌, ◌++◌, Option, Some, None, length, slice_get}
use Rattle.std.specs.Option.{option_map_or}
use Rattle.hp_ops.specs.Stages.{is_over}
use Rattle.hp_units.specs.Driver.{cause_of}
use Rattle.hp_units.specs.Receipts.{receipts_of}
use Rattle.hp_units.specs.declared.replies.Receipt.{Receipt}
use Rattle.hp_units.specs.declared.replies.Record.{Record}
use Rattle.hp_units.specs.declared.replies.Refusal.{Refusal}
use Rattle.hp_units.specs.declared.replies.Refusal.TheVariants.{NoOwner, NoPage, NoWord, AlreadyMapped, NotMapped, BadOrder, NoFrame, NoSuchFrame, NotKernel, NoCpu, NoBlock, EmptyPlan, Twice, Busy, NotOnline, NotOffline, Unmovable, NoOp, NothingToMove, NotFree, Gone, BadAddress, NotAbsent}
use Rattle.hp_schedules.specs.Interleavings.{is_one_call}
use Rattle.hp_schedules.specs.LineAnswers.{answers_at}
use Rattle.hp_schedules.specs.Schedules.{Setting}
use Rattle.hp_schedules.specs.Scripts.{after_line, nothing_known}
use Rattle.hp_schedules.specs.declared.cursors.Cursor.{Cursor}
use Rattle.hp_schedules.specs.declared.line_answers.LineAnswer.{LineAnswer}
use Rattle.hp_schedules.specs.declared.scripts.Step.{Step}
use Rattle.hp_schedules.specs.declared.scripts.Step.TheVariants.{Carry}

-- the last refusal of a migration or a commit in a line that carries a plan; `own` are the line's
-- receipts
abbrev pub cause_in_line : Step → List Receipt → Option Refusal
cause_in_line (Carry plan turns) own = cause_of own
cause_in_line line own = None

-- the last refusal of a migration or a commit in the first unfinished line. `receipts` are those of
-- the processor since the first of the lines began
abbrev pub cause_in : (cpus : ℕ) → List Step → List Receipt → Option Refusal
cause_in cpus [] receipts = None
cause_in cpus (line ∷ lines) receipts =
    option_map_or (λ rest. cause_in cpus lines rest) (after_line cpus nothing_known line [] receipts)
    (cause_in_line line receipts)

-- the last refusal of a migration or a commit in the plan that the processor is carrying out after
-- the new records; None if there is no such plan or refusal
unfoldable pub cause_at : Setting → (cpu : ℕ) → List Record → Option Refusal
cause_at g cpu news =
    option_map_or (λ lines. cause_in g.layout.cpus lines (receipts_of cpu news)) (slice_get g.scripts cpu)
    None

-- the last refusal that the cursor's driver has stored; None if the line is one call or its plan
-- has ended
abbrev pub met_at : Cursor → Step → Option Refusal
met_at c line = cond (is_one_call line) None (cond (is_over c.driver.stage) None c.driver.why)

-- a refusal by two numbers: its kind, and the block or frame that it names, or 0
abbrev pub refusal_numbers : Refusal → List ℕ
refusal_numbers NoOwner = 1 ∷ 0 ∷ []
refusal_numbers NoPage = 2 ∷ 0 ∷ []
refusal_numbers NoWord = 3 ∷ 0 ∷ []
refusal_numbers AlreadyMapped = 4 ∷ 0 ∷ []
refusal_numbers NotMapped = 5 ∷ 0 ∷ []
refusal_numbers BadOrder = 6 ∷ 0 ∷ []
refusal_numbers NoFrame = 7 ∷ 0 ∷ []
refusal_numbers NoSuchFrame = 8 ∷ 0 ∷ []
refusal_numbers NotKernel = 9 ∷ 0 ∷ []
refusal_numbers NoCpu = 10 ∷ 0 ∷ []
refusal_numbers NoBlock = 11 ∷ 0 ∷ []
refusal_numbers EmptyPlan = 12 ∷ 0 ∷ []
refusal_numbers NoOp = 13 ∷ 0 ∷ []
refusal_numbers NothingToMove = 14 ∷ 0 ∷ []
refusal_numbers Gone = 15 ∷ 0 ∷ []
refusal_numbers BadAddress = 16 ∷ 0 ∷ []
refusal_numbers (Twice block) = 17 ∷ block ∷ []
refusal_numbers (Busy block) = 18 ∷ block ∷ []
refusal_numbers (NotOnline block) = 19 ∷ block ∷ []
refusal_numbers (NotOffline block) = 20 ∷ block ∷ []
refusal_numbers (Unmovable frame) = 21 ∷ frame ∷ []
refusal_numbers (NotFree frame) = 22 ∷ frame ∷ []
refusal_numbers (NotAbsent block) = 23 ∷ block ∷ []

-- a refusal by two numbers, or 0 and 0 for none
abbrev pub cause_numbers : Option Refusal → List ℕ
cause_numbers None = 0 ∷ 0 ∷ []
cause_numbers (Some refusal) = refusal_numbers refusal

-- these two numbers give the last refusal in a processor's plan in progress after the new records
abbrev pub IsCaused : Setting → (cpu : ℕ) → List Record → List ℕ → Type 0
IsCaused g cpu news numbers = numbers ≡ cause_numbers (cause_at g cpu news)

-- after h and k equally many of a processor's lines are finished. The records `more` after h and
-- `others` after k give further lines the same answers
pub record AnswerAlike (g : Setting) (cpu : ℕ) (h k more others : List Record) : Type 0 where
  pub many : length (answers_at g cpu h) ≡ length (answers_at g cpu k)
  pub later : List (Option LineAnswer)
  pub first : answers_at g cpu (h ++ more) ≡ answers_at g cpu h ++ later
  pub second : answers_at g cpu (k ++ others) ≡ answers_at g cpu k ++ later
