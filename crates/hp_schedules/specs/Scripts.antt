-- The calls of a script. Each follows from its processor's receipts so far: its calls' serials,
-- events and replies.
use Rattle.std.specs.Prelude.{ℕ, Bool, true, false, if◌then◌else◌, List, [], ◌∷◌, ◌++◌, Option, Some, None, filter, fold, get_or, map, nat_lt}
use Rattle.std.specs.Option.{option_and_then, option_map_or}
use Rattle.hp_units.specs.Driver.{next_event}
use Rattle.hp_units.specs.Marks.{is_opening, mark_of}
use Rattle.hp_units.specs.declared.events.Event.{Event}
use Rattle.hp_units.specs.declared.events.Event.TheVariants.{KernelAlloc, KernelFree, DrainFor as DrainsFor, Migrate as Migrates, Commit as Commits, Cancel as Cancels}
use Rattle.hp_units.specs.declared.replies.Receipt.{Receipt}
use Rattle.hp_units.specs.declared.replies.Reply.{Reply}
use Rattle.hp_units.specs.declared.replies.Reply.TheVariants.{Frame}
use Rattle.hp_schedules.specs.declared.scripts.OwnWork.{OwnWork}
use Rattle.hp_schedules.specs.declared.scripts.OwnWork.TheVariants.{Latest, Nth, Free}
use Rattle.hp_schedules.specs.declared.scripts.Step.{Step}
use Rattle.hp_schedules.specs.declared.scripts.Step.TheVariants.{Ask, Own, Carry}
use Rattle.hp_schedules.specs.declared.scripts.StepWork.{StepWork}
use Rattle.hp_schedules.specs.declared.scripts.StepWork.TheVariants.{DrainFor, Migrate, Commit, Cancel}

-- the operation that a processor began last, after one more receipt `r`: the serial of `r` if its
-- event is a Begin, refused or not; otherwise still `op`
abbrev pub later_operation : ℕ → Receipt → ℕ
later_operation op r = if is_opening (mark_of r.event) then r.serial else op

-- the operation that a processor began last: the serial of its last Begin, refused or not; 0 without
-- one
abbrev pub own_operation : List Receipt → ℕ
own_operation receipts = fold later_operation 0 receipts

-- the operations that a processor began, refused or not, in order
abbrev pub operations_of : List Receipt → List ℕ
operations_of receipts = map (λ r. r.serial) (filter (λ r. is_opening (mark_of r.event)) receipts)

-- the event is a KernelAlloc
abbrev pub takes_frame : Event → Bool
takes_frame (KernelAlloc order) = true
takes_frame event = false

-- a frame that no layout has; the result of a refused KernelAlloc
abbrev pub no_frame : ℕ
no_frame = 4294967295

-- the frame in a reply, or `no_frame` if the reply has none
abbrev pub frame_in : Reply → ℕ
frame_in (Frame frame) = frame
frame_in reply = no_frame

-- the results of a processor's KernelAllocs, in order: the first frame of the kernel's block, or
-- `no_frame` if refused
abbrev pub frames_of : List Receipt → List ℕ
frames_of receipts = map (λ r. frame_in r.reply) (filter (λ r. takes_frame r.event) receipts)

-- the results of a processor's calls that its lines may work on: the operation begun last, all
-- operations begun, and the frames of its KernelAllocs
pub record Known : Type 0 where
  pub op : ℕ
  pub begun : List ℕ
  pub frames : List ℕ

-- the operations and frames that the receipts give, but with `op` as the operation begun last
abbrev pub known_with : (op : ℕ) → List Receipt → Known
known_with op receipts =
    record { op = op; begun = operations_of receipts; frames = frames_of receipts }

-- the operations and frames that the receipts give
abbrev pub known_of : List Receipt → Known
known_of receipts = known_with (own_operation receipts) receipts

-- no operations and no frames
abbrev pub nothing_known : Known
nothing_known = record { op = 0; begun = []; frames = [] }

-- the event of some work on the operation `op`
abbrev pub step_work_of : (op : ℕ) → StepWork → Event
step_work_of op (DrainFor cpu) = DrainsFor op cpu
step_work_of op Migrate = Migrates op
step_work_of op Commit = Commits op
step_work_of op Cancel = Cancels op

-- the event of a line's work on an earlier result. If there is no such result, the operation is 0
-- and the frame is `no_frame`
abbrev pub work_of : Known → OwnWork → Event
work_of known (Latest work) = step_work_of known.op work
work_of known (Nth nth work) = step_work_of (get_or known.begun nth 0) work
work_of known (Free nth) = KernelFree (get_or known.frames nth no_frame)

-- the event of a line that makes one call; None once the line has a receipt
abbrev pub once : Event → List Receipt → Option Event
once event [] = Some event
once event (r ∷ rs) = None

-- the next event of a line after its own receipts; None if it is finished. A line with a plan makes the
-- calls that its driver asks for
abbrev pub line_next : (cpus : ℕ) → Known → Step → List Receipt → Option Event
line_next cpus known (Ask event) receipts = once event receipts
line_next cpus known (Own work) receipts = once (work_of known work) receipts
line_next cpus known (Carry plan turns) receipts = next_event cpus turns plan receipts

-- the receipts in `later` that a line does not need: those after its last call. `earlier` are the line's
-- receipts before `later`. None if the line is not finished after all of `later`
abbrev pub after_line : (cpus : ℕ) → Known → Step → (earlier later : List Receipt) → Option (List Receipt)
after_line cpus known line earlier [] =
    option_map_or (λ event. None) (line_next cpus known line earlier) (Some [])
after_line cpus known line earlier (r ∷ rs) =
    option_map_or (λ event. after_line cpus known line (earlier ++ r ∷ []) rs)
    (line_next cpus known line earlier) (Some (r ∷ rs))

-- the receipts that several lines, one after another, do not need; None if a line is not finished
abbrev pub after_lines : (cpus : ℕ) → Known → List Step → List Receipt → Option (List Receipt)
after_lines cpus known [] receipts = Some receipts
after_lines cpus known (line ∷ lines) receipts =
    option_and_then (λ rest. after_lines cpus known lines rest) (after_line cpus known line [] receipts)

-- the next event of the lines; None if all are finished. `receipts` are those of the processor
-- since the first of the lines began
abbrev pub next_in : (cpus : ℕ) → Known → List Step → List Receipt → Option Event
next_in cpus known [] receipts = None
next_in cpus known (line ∷ lines) receipts =
    option_map_or (λ rest. next_in cpus known lines rest) (after_line cpus known line [] receipts)
    (line_next cpus known line receipts)

-- the next event of a script after all receipts of its processor; None at the script's end
abbrev pub next_of : (cpus : ℕ) → List Step → List Receipt → Option Event
next_of cpus lines receipts = next_in cpus (known_of receipts) lines receipts

-- the operation that an event works on, or 0
abbrev pub named_by : Event → ℕ
named_by (DrainsFor op cpu) = op
named_by (Migrates op) = op
named_by (Commits op) = op
named_by (Cancels op) = op
named_by event = 0

-- the operation that a line names by its number, or 0
abbrev pub named_in : Step → ℕ
named_in (Ask event) = named_by event
named_in (Own work) = 0
named_in (Carry plan turns) = 0

-- the line does not free the frame of an earlier KernelAlloc
abbrev pub names_no_frame : Step → Bool
names_no_frame (Own (Free nth)) = false
names_no_frame line = true

-- the greater of two numbers
abbrev pub greater : ℕ → ℕ → ℕ
greater n m = if nat_lt n m then m else n

-- the greatest operation that a script's lines name by number, or `least` if that is greater
abbrev pub greatest_in : (least : ℕ) → List Step → ℕ
greatest_in least lines = fold (λ n line. greater n (named_in line)) least lines

-- the greatest operation that any script names by number, or 0
abbrev pub greatest_named : List (List Step) → ℕ
greatest_named scripts = fold greatest_in 0 scripts
