-- Positions of processors in their scripts.
use Rattle.std.specs.Prelude.{◌≡◌, ℕ, ◌+◌, ◌≤◌, Bool, true, false, cond, List, [], ◌∷◌, ◌++◌, Option, Some, None, length, take, drop, flat_map, get_or, slice_get, option_and_then, option_map}
use Rattle.hp_ops.specs.Stages.{IsAfter, end_in, event_in, has_begun, is_over, key_of}
use Rattle.hp_ops.specs.declared.stages.Driver.{Driver}
use Rattle.hp_ops.specs.declared.stages.Stage.TheVariants.{Begin as Begins}
use Rattle.std.specs.Option.{option_map_or}
use Rattle.hp_units.specs.Receipts.{receipts_of}
use Rattle.hp_units.specs.declared.events.Event.{Event}
use Rattle.hp_units.specs.declared.replies.Receipt.{Receipt}
use Rattle.hp_units.specs.declared.replies.Record.{Record}
use Rattle.hp_schedules.specs.Interleavings.{is_one_call}
use Rattle.hp_schedules.specs.Schedules.{Setting, next_call}
use Rattle.hp_schedules.specs.Scripts.{Known, after_line, after_lines, frames_of, known_with, next_in, next_of, no_frame, own_operation, work_of}
use Rattle.hp_schedules.specs.declared.cursors.Cursor.{Cursor}
use Rattle.hp_schedules.specs.declared.cursors.NextCall.{NextCall}
use Rattle.hp_schedules.specs.declared.line_answers.FinishedLine.{FinishedLine}
use Rattle.hp_schedules.specs.declared.line_answers.LineAnswer.TheVariants.{Plan as Carried}
use Rattle.hp_schedules.specs.declared.scripts.OwnWork.TheVariants.{Latest, Nth, Free}
use Rattle.hp_schedules.specs.declared.scripts.Step.{Step}
use Rattle.hp_schedules.specs.declared.scripts.Step.TheVariants.{Ask, Own, Carry}

-- the next event of the line that the cursor is at; None if the line's plan has ended. `receipts`
-- are all those of the processor
abbrev pub asks : List Receipt → Cursor → Step → Option Event
asks receipts c (Ask event) = Some event
asks receipts c (Own work) = Some (work_of (known_with c.op receipts) work)
asks receipts c (Carry plan turns) = event_in plan c.driver.stage

-- the next event of the cursor's own line; None if the line's plan has ended or there is no line
abbrev pub asks_at : List Receipt → Cursor → List Step → Option Event
asks_at receipts c lines = option_and_then (asks receipts c) (slice_get lines c.line)

-- `own` are the receipts of the cursor's line so far: none if the line is one call. For a plan, `d`
-- is the state of its driver after them
abbrev pub IsIn : (cpus : ℕ) → Step → List Receipt → Driver → Type 0
IsIn cpus (Ask event) own d = own ≡ []
IsIn cpus (Own work) own d = own ≡ []
IsIn cpus (Carry plan turns) own d = IsAfter cpus turns own d

-- `own` are the receipts of the first line so far, if there is a line; the line was not finished
-- before the last of them
abbrev pub IsInFirst : (cpus : ℕ) → List Step → List Receipt → Driver → Type 0
IsInFirst cpus [] own d = Unit {0}
IsInFirst cpus (line ∷ lines) own d =
    IsIn cpus line own d × ((known : Known) (later : List Receipt)
    → after_line cpus known line [] (own ++ later) ≡ after_line cpus known line own later)

-- the cursor is where `receipts` lead in the script. The lines before `c.line` are finished, and
-- `own` are the receipts after theirs. After any `later` receipts, the other lines make the same
-- calls as the whole script
pub record IsCursor (cpus : ℕ) (lines : List Step) (receipts : List Receipt) (c : Cursor) : Type 0 where
  pub own : List Receipt
  pub begun : c.op ≡ own_operation receipts
  pub ahead : (known : Known) (later : List Receipt)
      → next_in cpus known lines (receipts ++ later)
      ≡ next_in cpus known (drop c.line lines) (own ++ later)
  pub here : IsInFirst cpus (drop c.line lines) own c.driver
  pub within : c.line ≤ length lines
  pub passed : (known : Known) → after_lines cpus known (take c.line lines) receipts ≡ Some own

-- the driver of a plan before its first call
abbrev pub driver_before : (cpus turns : ℕ) → Driver
driver_before cpus turns = record { cpus = cpus; left = turns; why = None; stage = Begins }

-- the driver of a line before its first call
abbrev pub first_driver : (cpus : ℕ) → Step → Driver
first_driver cpus (Ask event) = driver_before cpus 0
first_driver cpus (Own work) = driver_before cpus 0
first_driver cpus (Carry plan turns) = driver_before cpus turns

-- the cursor at the beginning of a line; `op` is the operation that its processor began last
abbrev pub cursor_at : (cpus : ℕ) → List Step → (line op : ℕ) → Cursor
cursor_at cpus lines line op = record {
  line = line;
  op = op;
  driver = option_map_or (first_driver cpus) (slice_get lines line) (driver_before cpus 0);
}

-- the next call of the cursor's own line, or None if this line calls nothing more
abbrev pub IsAsked : List Receipt → Cursor → List Step → Option NextCall → Type 0
IsAsked receipts c lines None = asks_at receipts c lines ≡ None
IsAsked receipts c lines (Some q) = (asks_at receipts c lines ≡ Some q.event) × (q.from ≡ c)

-- the next call of a script after its receipts, with the position of the line that makes it
abbrev pub IsRequested : (cpus : ℕ) → List Step → List Receipt → Option NextCall → Type 0
IsRequested cpus lines receipts None = next_of cpus lines receipts ≡ None
IsRequested cpus lines receipts (Some q) =
    (next_of cpus lines receipts ≡ Some q.event) × IsCursor cpus lines receipts q.from
    × (asks_at receipts q.from lines ≡ Some q.event)

-- the cursor is in the middle of a plan or at its end: the plan's driver has taken a reply
abbrev pub carries : Cursor → Step → Bool
carries c line = cond (is_one_call line) false (has_begun c.driver.stage)

-- the line at the cursor is a plan whose driver has taken a reply
abbrev pub is_carrying : Cursor → List Step → Bool
is_carrying c lines = option_map_or (carries c) (slice_get lines c.line) false

-- the cursor is at the end of a plan: the plan's driver asks for nothing more
abbrev pub has_carried : Cursor → Step → Bool
has_carried c line = cond (is_one_call line) false (is_over c.driver.stage)

-- the plan's line with the answer to it, if the driver is at the plan's end
abbrev pub carried : Cursor → Option FinishedLine
carried c =
    cond (is_over c.driver.stage)
    (Some (record { line = c.line; answer = option_map Carried (end_in c.driver.stage) })) None

-- if the cursor is at the beginning of a line, or past the last line, then the line before it is one
-- call: after a plan, the cursor stays at the plan's line
abbrev pub IsSettled : List Step → Cursor → Type 0
IsSettled lines c =
    is_carrying c lines ≡ false → (k : ℕ) (line : Step) → c.line ≡ k + 1 → slice_get lines k ≡ Some line
    → is_one_call line ≡ true

-- ---- all processors

-- there is one cursor per script, and it gives the processor's position after the new records
pub record AreCursors (g : Setting) (news : List Record) (cursors : List Cursor) : Type 0 where
  pub many : length cursors ≡ length g.scripts
  pub each : (cpu : ℕ) (lines : List Step) (c : Cursor)
      → slice_get g.scripts cpu ≡ Some lines → slice_get cursors cpu ≡ Some c
      → IsCursor g.layout.cpus lines (receipts_of cpu news) c
  pub settled : (cpu : ℕ) (lines : List Step) (c : Cursor)
      → slice_get g.scripts cpu ≡ Some lines → slice_get cursors cpu ≡ Some c → IsSettled lines c

-- a cursor as numbers: its line, the operation begun last, and the driver's remaining turns, its stage
-- and its operation. `f` renumbers the operations
abbrev pub steering_of : (f : ℕ → ℕ) → Cursor → List ℕ
steering_of f c =
    c.line ∷ f c.op ∷ (key_of c.driver).left ∷ (key_of c.driver).stage ∷ f (key_of c.driver).op ∷ []

-- two numbers for a line that frees the frame of an earlier KernelAlloc: how many KernelAllocs the
-- processor has made, and that frame, or `no_frame`. No numbers for other lines
abbrev pub frames_named : (frames : List ℕ) → Step → List ℕ
frames_named frames (Ask event) = []
frames_named frames (Own (Latest work)) = []
frames_named frames (Own (Nth nth work)) = []
frames_named frames (Own (Free nth)) = length frames ∷ get_or frames nth no_frame ∷ []
frames_named frames (Carry plan turns) = []

-- the two numbers of each line from the cursor on that frees the frame of an earlier KernelAlloc
abbrev pub frames_ahead : Cursor → List Step → List Receipt → List ℕ
frames_ahead c lines receipts = flat_map (frames_named (frames_of receipts)) (drop c.line lines)

-- the numbers of a processor's position after the new records; `f` renumbers the operations. If no line
-- works on the operation of its processor's n-th Begin, the further calls depend only on these numbers
-- and on the receipts of those calls
abbrev pub IsSteered : (f : ℕ → ℕ) → Setting → (cpu : ℕ) → List Record → List ℕ → Type 0
IsSteered f g cpu news numbers =
    (lines : List Step) → slice_get g.scripts cpu ≡ Some lines
    → (c : Cursor) × IsCursor g.layout.cpus lines (receipts_of cpu news) c
    × (numbers ≡ steering_of f c ++ frames_ahead c lines (receipts_of cpu news))

-- the next call of a processor's script after the new records, with the position of the line that makes
-- it
abbrev pub IsCalledFor : Setting → (cpu : ℕ) → List Record → Option NextCall → Type 0
IsCalledFor g cpu news None = next_call g cpu news ≡ None
IsCalledFor g cpu news (Some q) =
    (next_call g cpu news ≡ Some q.event) × ((lines : List Step) → slice_get g.scripts cpu ≡ Some lines
    → IsCursor g.layout.cpus lines (receipts_of cpu news) q.from
    × (asks_at (receipts_of cpu news) q.from lines ≡ Some q.event))
