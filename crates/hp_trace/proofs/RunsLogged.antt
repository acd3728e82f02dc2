-- The rows that lines make show turns of the machine, and drawn as a log they add its events.
use Rattle.std.proofs.Common.{arith, ◌≡◌, ℕ, ◌+◌, ◌<◌, List, [], ◌∷◌, ◌++◌, get_or, length, take, append_assoc, append-nil, Some, Result, refl, sym, ap, subst, inl, inr, ◌∙◌}
use Rattle.std.proofs.lemmas.List.{take_more}
use Rattle.hp_units.specs.Arithmetic.{block_size}
use Rattle.hp_units.specs.Boot.{boot_memory}
use Rattle.hp_units.specs.LayoutParts.{LayoutParts}
use Rattle.hp_units.specs.declared.plans.Item.{Item}
use Rattle.hp_units.specs.declared.replies.Receipt.{Receipt}
use Rattle.hp_requests.specs.declared.fault.ControlFault.{ControlFault}
use Rattle.hp_judge.specs.declared.events.LogEvent.{LogEvent}
use Rattle.hp_judge.specs.Logs.{log_of_all, step_log}
use Rattle.hp_machine.specs.Machine.{MachineValue, booted}
use Rattle.hp_scenario.specs.Asked as asks
use Rattle.hp_scenario.specs.Asked.{asked_by}
use Rattle.hp_scenario.specs.Scenario.{ScenarioValue}
use Rattle.hp_scenario.specs.declared.lines.Line.{Line}
use Rattle.hp_judge.specs.Snapshots.{Shows, snapshot_of}
use Rattle.hp_trace.specs.Calls.{MakesPlan, MakesSeal, MakesSteps, MakesWork, file_rows}
use Rattle.hp_trace.specs.Logs.{AreLinesDrawn, IsLogOfScenario, RunsLines, histories}
use Rattle.hp_trace.specs.Rows.{Adds, AreDrawn, DrawsIf, IsRowLogged, Row, RowsValue, SaysAs, drawing, drawn_joined, noted, words}
use Rattle.hp_trace.specs.StateLogs.{IsLogged, LogValue}
use Rattle.hp_trace.specs.Traces.{IsStart}
use Rattle.hp_trace.specs.declared.rows.Form.{Form}
use Rattle.hp_trace.specs.declared.rows.Form.TheVariants.{Logged}
use Rattle.hp_trace.specs.declared.view.View.{View}
use Rattle.hp_trace.proofs.HistoryLogs.{IsReached, IsTurn, Turns, boot_reached, rows_log, turn_taken, whole_log, whole_rows}

-- ---- turns

pub turns_joined : (xs ys : List Row) (m n after : MachineValue) → Turns m xs n → Turns n ys after
    → Turns m (xs ++ ys) after
turns_joined [] ys m n after first second = subst (λ (k : MachineValue). Turns k ys after) first second
turns_joined (words text ∷ xs) ys m n after first second = turns_joined xs ys m n after first second
turns_joined (drawing asked answer moved k ∷ xs) ys m n after first second =
    (first.0, turns_joined xs ys k n after first.1 second)

-- a row without a call, and a text below it
noted_turns : (m n : MachineValue) (asked text : List ℕ) → IsTurn m n → Turns m (noted n asked text) n
noted_turns m n asked text turn = (turn, refl)

same_noted : (m after : MachineValue) (rows : List Row) (asked text : List ℕ) → after ≡ m
    → rows ≡ noted m asked text → Turns m rows after
same_noted m after rows asked text same is = grind (arith, Turns, noted_turns)

-- ---- what a line makes

steps_turns : (cpu : ℕ) (m : MachineValue) (receipts : List Receipt) (rows : List Row) (after : MachineValue)
    → MakesSteps cpu m receipts rows after → Turns m rows after
steps_turns cpu m [] rows after made = subst (λ (rs : List Row). Turns m rs after) (sym made.1) made.0
steps_turns cpu m (r ∷ receipts) rows after made =
    rw made.4 (inr (inl (cpu, r.event, r, made.3)), steps_turns cpu made.0 receipts made.1 after made.5)

plan_turns : (m : MachineValue) (cpu turns : ℕ) (plan : List Item) (rows : List Row) (after : MachineValue)
    → MakesPlan m cpu turns plan [] rows after → Turns m rows after
plan_turns m cpu turns plan rows after made = grind (arith, Turns, turns_joined, steps_turns)

file_turns : (m after : MachineValue) (file : Result (List ℕ) ControlFault) (rows : List Row) → after ≡ m
    → rows ≡ file_rows m file [] → Turns m rows after
file_turns m after file rows same is = grind (arith, same_noted)

seal_turns : (m after : MachineValue) (rows : List Row) → MakesSeal m [] rows after → Turns m rows after
seal_turns m after rows made = grind (arith, Turns, noted_turns)

work_turns : (m : MachineValue) (cpu : ℕ) (asked : asks.Meaning) (rows : List Row) (after : MachineValue)
    → MakesWork m cpu asked [] rows after → Turns m rows after
work_turns m cpu asked rows after made = grind (arith, plan_turns, same_noted, file_turns, seal_turns, Turns)

pub lines_turns : (m : MachineValue) (lines : List Line) (rows : List Row) (after : MachineValue)
    → RunsLines m lines rows after → Turns m rows after
lines_turns m [] rows after run = subst (λ (rs : List Row). Turns m rs after) (sym run.1) run.0
lines_turns m (line ∷ lines) rows after run =
    grind (arith, Turns, turns_joined, work_turns, (lines_turns run.0 lines run.2 after run.5))

-- ---- rows drawn as a log

-- the form is that of a log, and the state that was seen last is the machine's
pub record HasSeen (m : MachineValue) (rows : RowsValue) : Type 0 where
  pub form : rows.form ≡ Logged
  pub shows : Shows m.layout m.state (snapshot_of m.layout m.state)
  pub seen : rows.log.seen ≡ Some (snapshot_of m.layout m.state)

-- a further one
next_seen : (m n : MachineValue) (old new : RowsValue) → n.layout ≡ m.layout → HasSeen m old
    → IsRowLogged n old new
    → HasSeen n new × (new.log.events ≡ old.log.events ++ step_log m.layout m.state n.state)
next_seen m n old new same has drawn = grind arith

-- a text changes nothing
said_nothing : (form : Form) (text : List ℕ) (old new : RowsValue) → form ≡ Logged
    → SaysAs form text old new → new ≡ old
said_nothing form text old new is said = subst (λ (f : Form). SaysAs f text old new) is said

pub rows_logged : (m after : MachineValue) (rows : List Row) (old new : RowsValue) → IsReached m
    → Turns m rows after → HasSeen m old → AreDrawn rows old new
    → new.log.events ≡ old.log.events ++ rows_log m rows
rows_logged m after [] old new reached turns has drawn = cc (drawn, append-nil old.log.events)
rows_logged m after (words text ∷ rows) old new reached turns has drawn =
    let same : drawn.0 ≡ old = said_nothing old.form text old drawn.0 has.form drawn.1 in
    rows_logged m after rows old new reached turns has
    (subst (λ (r : RowsValue). AreDrawn rows r new) same drawn.2)
rows_logged m after (drawing asked answer moved n ∷ rows) old new reached turns has drawn =
    let taken = turn_taken m n reached turns.0 in
    let row : IsRowLogged n old drawn.0 =
    subst (λ (f : Form). DrawsIf f n asked answer moved old drawn.0) has.form drawn.1 in
    let next = next_seen m n old drawn.0 taken.layout has row in
    rows_logged n after rows drawn.0 new taken.reached turns.1 next.0 drawn.2
    ∙ (ap (λ (es : List LogEvent). es ++ rows_log n rows) next.1
    ∙ append_assoc old.log.events (step_log m.layout m.state n.state) (rows_log n rows))

-- ---- a scenario

-- the boot's row, and then those of the lines
run_from_boot : (l : LayoutParts) (v : View) (lines : List Line) (old new : RowsValue) (after : MachineValue)
    → IsStart Logged v (booted l) old → (d : AreLinesDrawn (booted l) lines old new after)
    → new.log.events ≡ log_of_all l (boot_memory l) (histories (booted l) d.rows)
run_from_boot l v lines old new after begun d =
    grind (arith, lines_turns, rows_log, whole_log, whole_rows, boot_reached, rows_logged)

pub run_logged : (s : ScenarioValue) (v : View) (lines : List Line) (old new : RowsValue)
    (start after : MachineValue) (block_frames : ℕ) (events : List LogEvent)
    → start ≡ booted s.layout → lines ≡ s.lines → IsStart Logged v start old
    → AreLinesDrawn start lines old new after → block_frames ≡ block_size s.layout
    → events ≡ new.log.events → IsLogOfScenario s block_frames events
run_logged s v lines old new start after block_frames events at same begun d size is =
    let begun_at : IsStart Logged v (booted s.layout) old =
    subst (λ (k : MachineValue). IsStart Logged v k old) at begun in
    let drawn : AreLinesDrawn (booted s.layout) s.lines old new after =
    subst (λ (ls : List Line). AreLinesDrawn (booted s.layout) ls old new after) same
    (subst (λ (k : MachineValue). AreLinesDrawn k lines old new after) at d) in
    record {
      rows = drawn.rows;
      machine = after;
      run = drawn.run;
      size = size;
      is = is ∙ run_from_boot s.layout v s.lines old new after begun_at drawn;
    }

-- ---- one line more

runs_joined : (m n after : MachineValue) (line : Line) (lines : List Line) (rows more : List Row)
    → RunsLines m lines rows n → MakesWork n line.cpu (asked_by line.work) [] more after
    → RunsLines m (lines ++ line ∷ []) (rows ++ more) after
runs_joined m n after line [] rows more run made = grind (arith, append-nil)
runs_joined m n after line (first ∷ lines) rows more run made = (
  run.0,
  run.1,
  run.2 ++ more,
  run.3,
  ap (λ (rs : List Row). rs ++ more) run.4 ∙ append_assoc run.1 run.2 more,
  runs_joined run.0 n after line lines run.2 more run.5 made,
)

pub none_drawn : (m : MachineValue) (old : RowsValue) → AreLinesDrawn m [] old old m
none_drawn m old = record { rows = []; run = (refl, refl); drawn = refl }

pub line_drawn : (m n after : MachineValue) (line : Line) (lines longer : List Line) (old mid new : RowsValue)
    → longer ≡ lines ++ line ∷ [] → AreLinesDrawn m lines old mid n
    → Adds mid new (λ more. MakesWork n line.cpu (asked_by line.work) [] more after)
    → AreLinesDrawn m longer old new after
line_drawn m n after line lines longer old mid new is d a =
    rw is (record {
      rows = d.rows ++ a.rows;
      run = runs_joined m n after line lines d.rows a.rows d.run
          a.is;
      drawn = drawn_joined d.rows a.rows old mid new d.drawn a.drawn;
    })

pub lines_more : (lines : List Line) (at : ℕ) (line : Line) (m n after : MachineValue)
    (old mid new : RowsValue)
    → at < length lines → line ≡ get_or lines at line → AreLinesDrawn m (take at lines) old mid n
    → Adds mid new (λ more. MakesWork n line.cpu (asked_by line.work) [] more after)
    → AreLinesDrawn m (take (at + 1) lines) old new after
lines_more lines at line m n after old mid new inside is d a =
    line_drawn m n after line (take at lines) (take (at + 1) lines) old mid new
    (take_more lines at line inside
    ∙ ap (λ (l : Line). take at lines ++ l ∷ []) (sym is)) d a

-- ---- a row of a log

pub row_logged : (m : MachineValue) (old inside new : RowsValue) (log : LogValue) → old ≡ inside
    → IsLogged m inside.log log → new ≡ record inside { log = log } → IsRowLogged m old new
row_logged m old inside new log same logged is = rw same (record { log = log; logged = logged; is = is })
