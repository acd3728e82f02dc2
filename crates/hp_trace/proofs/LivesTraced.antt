-- What is shown for lines that come after a scenario's is the trace of the scenario with them.
use Rattle.std.proofs.Common.{◌≡◌, ℕ, ◌+◌, ◌-◌, ◌^◌, List, [], ◌∷◌, ◌++◌, length, map, drop, take, Option, None, inl, inr, refl, sym, ap, subst, ◌∙◌, append_assoc, append-nil, arith}
use Rattle.std.specs.Prelude.{codes}
use Rattle.std.specs.Fmt.{format_spec, styled_decimal}
use Rattle.std.specs.List.{AllByRecursion}
use Rattle.std.proofs.lemmas.List.{drop_at, length-append, take_at}
use Rattle.hp_machine.specs.Machine.{MachineValue, booted}
use Rattle.hp_map.specs.declared.row_picture.Move.{Move}
use Rattle.hp_scenario.specs.Asked as asks
use Rattle.hp_scenario.specs.Names.{Numbered}
use Rattle.hp_scenario.specs.Scenario.{ScenarioValue}
use Rattle.hp_scenario.specs.declared.lines.Line.{Line}
use Rattle.hp_text.specs.Plans.{plan_line}
use Rattle.hp_text.specs.State.{newline}
use Rattle.hp_trace.specs.Calls.{MakesWork, answer_text, moved_of}
use Rattle.hp_trace.specs.Lives.{AreRead, IsBegun, LiveValue, LivesThrough, with_lines}
use Rattle.hp_trace.specs.Rows.{AreDrawn, DrawsIf, IsRow, Row, RowsValue, SaysAs, drawing, words}
use Rattle.hp_trace.specs.Traces.{IsStart, IsTraceOf, MakesLines, TracesLine, TracesLines, numbered_text, rows_if, skipped}
use Rattle.hp_trace.specs.Views.{shows}
use Rattle.hp_trace.specs.declared.rows.Form.{Form}
use Rattle.hp_trace.specs.declared.rows.Form.TheVariants.{Written}
use Rattle.hp_trace.specs.declared.view.View.{View}
use Rattle.hp_trace.proofs.LinesTraced.{line_more}
use Rattle.hp_trace.proofs.NamesKept.{IsWrittenAlike, all_written_alike}

-- ---- rows below a text

abbrev below : List ℕ → RowsValue → RowsValue
below front r = record r { text = front ++ r.text }

front_joined : (f a b c d e g : List ℕ)
    → f ++ (a ++ b ++ c ++ d ++ e ++ g) ≡ (f ++ a) ++ b ++ c ++ d ++ e ++ g
front_joined f a b c d e g = simp append_assoc refl

row_below : (front : List ℕ) (m : MachineValue) (asked answer : List ℕ) (moved : Option Move)
    (old new : RowsValue)
    → IsRow Written m asked answer moved old new
    → IsRow Written m asked answer moved (below front old) (below front new)
row_below front m asked answer moved old new row =
    let w = row.added.written in
    record {
      blocks = row.blocks;
      picture = row.picture;
      added = record {
        text = front ++ row.added.text;
        kept = row.added.kept;
        written = record {
          gap = w.gap;
          memory = w.memory;
          is =
              ap (λ (t : List ℕ). front ++ t) w.is
              ∙ front_joined front old.text asked w.gap answer w.memory newline;
        };
        is = ap (λ (r : RowsValue). below front r) row.added.is;
      };
    }

said_below : (front text : List ℕ) (old new : RowsValue) → SaysAs Written text old new
    → SaysAs Written text (below front old) (below front new)
said_below front text old new said = rw (said, ← append_assoc front old.text text)

drawn_below : (front : List ℕ) (rows : List Row) (old new : RowsValue) → old.form ≡ Written
    → AreDrawn rows old new → AreDrawn rows (below front old) (below front new)
drawn_below front [] old new is drawn = ap (λ (r : RowsValue). below front r) drawn
drawn_below front (drawing asked answer moved m ∷ rows) old new is drawn =
    let row : IsRow Written m asked answer moved old drawn.0 =
    subst (λ (f : Form). DrawsIf f m asked answer moved old drawn.0) is drawn.1 in (
      below front drawn.0,
      subst (λ (f : Form). DrawsIf f m asked answer moved (below front old) (below front drawn.0)) (sym is)
          (row_below front m asked answer moved old drawn.0 row),
      drawn_below front rows drawn.0 new (ap (λ (r : RowsValue). r.form) row.added.is ∙ is) drawn.2,
    )
drawn_below front (words text ∷ rows) old new is drawn =
    let said : SaysAs Written text old drawn.0 =
    subst (λ (f : Form). SaysAs f text old drawn.0) is drawn.1 in (
      below front drawn.0,
      subst (λ (f : Form). SaysAs f text (below front old) (below front drawn.0)) (sym is)
          (said_below front text old drawn.0 said),
      drawn_below front rows drawn.0 new (ap (λ (r : RowsValue). r.form) said ∙ is) drawn.2,
    )

-- rows stay in their form
drawn_form : (rows : List Row) (old new : RowsValue) → old.form ≡ Written → AreDrawn rows old new
    → new.form ≡ Written
drawn_form [] old new is drawn = ap (λ (r : RowsValue). r.form) drawn ∙ is
drawn_form (drawing asked answer moved m ∷ rows) old new is drawn =
    let row : IsRow Written m asked answer moved old drawn.0 =
    subst (λ (f : Form). DrawsIf f m asked answer moved old drawn.0) is drawn.1 in
    drawn_form rows drawn.0 new (ap (λ (r : RowsValue). r.form) row.added.is ∙ is) drawn.2
drawn_form (words text ∷ rows) old new is drawn =
    let said : SaysAs Written text old drawn.0 =
    subst (λ (f : Form). SaysAs f text old drawn.0) is drawn.1 in
    drawn_form rows drawn.0 new (ap (λ (r : RowsValue). r.form) said ∙ is) drawn.2

start_form : (v : View) (m : MachineValue) (rows : RowsValue) → IsStart Written v m rows → rows.form ≡ Written
start_form v m rows begun = ap (λ (r : RowsValue). r.form) begun.added.is

-- ---- other names

-- what a line does does not hang on how it is written
work_otherwise : (m : MachineValue) (cpu : ℕ) (work : asks.Meaning) (asked other : List ℕ) (rows : List Row)
    (after : MachineValue)
    → MakesWork m cpu work asked rows after → (found : List Row) × MakesWork m cpu work other found after
work_otherwise m cpu (asks.event e) asked other rows after (inl made) = (
  drawing other (answer_text made.0) (moved_of made.0.reply) after ∷ [],
  inl (made.0, made.1, made.2, refl),
)
work_otherwise m cpu (asks.event e) asked other rows after (inr made) =
    (_, inr (made.0, made.1, refl))
work_otherwise m cpu (asks.plan items turns) asked other rows after made = (
  drawing other [] None m ∷ (made.steps ++ words (plan_line made.end) ∷ []),
  record { steps = made.steps; end = made.end; driven = made.driven; is = refl },
)
work_otherwise m cpu (asks.not_taken fault) asked other rows after made = grind arith
work_otherwise m cpu (asks.cat path) asked other rows after made = grind arith
work_otherwise m cpu asks.seal asked other rows after made = grind arith

lines_otherwise : (names other : List (List ℕ)) (number : ℕ) (m : MachineValue) (lines : List Line)
    (lists : List (List Row)) (after : MachineValue)
    → MakesLines names number m lines lists after
    → (found : List (List Row)) × MakesLines other number m lines found after
lines_otherwise names other number m [] lists after made = ([], (made.0, refl))
lines_otherwise names other number m (line ∷ lines) lists after made =
    let one =
    work_otherwise m line.cpu (asks.asked_by line.work) (numbered_text names number line)
    (numbered_text other number line) made.1 made.0 made.3 in
    let rest = lines_otherwise names other (number + 1) made.0 lines made.2 after made.5 in
    (one.0 ∷ rest.0, (made.0, one.0, rest.0, one.1, refl, rest.1))

-- ---- lines that came

-- a line that came, below a text
line_below : (v : View) (names : List (List ℕ)) (c : Numbered) (number : ℕ) (total : List ℕ)
    (m next : MachineValue) (old new : RowsValue)
    → old.form ≡ Written → IsWrittenAlike names c
    → TracesLine v c.names number m c.line (record old { text = [] }) new next
    → TracesLine v names number m c.line (record old { text = total }) (below total new) next
line_below v names c number total m next old new is alike one = record {
  rows = one.rows;
  made =
      subst (λ (asked : List ℕ). MakesWork m c.line.cpu (asks.asked_by c.line.work) asked one.rows next)
      (ap (λ (t : List ℕ). styled_decimal (format_spec 32 3 0 4 (2 ^ 64 - 1)) number ++ codes " " ++ t) alike)
      one.made;
  drawn =
      subst (λ (t : List ℕ). AreDrawn (rows_if (shows v number) one.rows) (record old { text = t })
      (below total new)) (append-nil total)
      (drawn_below total (rows_if (shows v number) one.rows) (record old { text = [] }) new is one.drawn);
}

lines_below : (v : View) (names : List (List ℕ)) (before number : ℕ) (first : MachineValue)
    (start : RowsValue) (lines : List Line) (came : List Numbered) (total shown : List ℕ)
    (old new : LiveValue)
    → number ≡ before + 1 + length lines → old.view ≡ v → old.rows.form ≡ Written
    → TracesLines v names before first lines start (record old.rows { text = total }) old.machine
    → LivesThrough number came shown old new → AllByRecursion (IsWrittenAlike names) came
    → TracesLines v names before first (lines ++ map (λ c. c.line) came) start
    (record new.rows { text = total ++ shown }) new.machine
lines_below v names before number first start lines [] total shown old new at same is traced lives alike =
    subst (λ (ls : List Line). TracesLines v names before first ls start
    (record new.rows { text = total ++ shown }) new.machine) (sym (append-nil lines))
    (subst (λ (n : LiveValue). TracesLines v names before first lines start
    (record n.rows { text = total ++ shown }) n.machine) (sym lives.1)
    (subst (λ (t : List ℕ). TracesLines v names before first lines start
    (record old.rows { text = total ++ t }) old.machine) (sym lives.0)
    (subst (λ (t : List ℕ). TracesLines v names before first lines start (record old.rows { text = t })
    old.machine) (sym (append-nil total)) traced)))
lines_below v names before number first start lines (c ∷ came) total shown old new at same is traced
    lives alike =
    let next = lives.0 in
    let one : TracesLine v c.names number old.machine c.line (record old.rows { text = [] }) next.rows
    next.machine =
    subst (λ (w : View). TracesLine w c.names number old.machine c.line (record old.rows { text = [] })
    next.rows next.machine) same lives.2.traced in
    let longer : TracesLines v names before first (lines ++ c.line ∷ []) start (below total next.rows)
    next.machine =
    line_more v names before number lines c.line first old.machine next.machine start
    (record old.rows { text = total }) (below total next.rows) at traced
    (line_below v names c number total old.machine next.machine old.rows next.rows is alike.0 one) in
    let form : next.rows.form ≡ Written =
    drawn_form (rows_if (shows v number) one.rows) (record old.rows { text = [] }) next.rows is one.drawn in
    let count : length (lines ++ c.line ∷ []) ≡ length lines + 1 = length-append lines (c.line ∷ []) in
    rw (← (append_assoc total next.rows.text lives.1 ∙ ap (λ (t : List ℕ). total ++ t) (sym lives.3)))
    (rw (← (append_assoc lines (c.line ∷ []) (map (λ d. d.line) came)))
    (lines_below v names before (number + 1) first start (lines ++ c.line ∷ []) came
    (total ++ next.rows.text) lives.1 next new (omega (arith, at, count)) (lives.2.same ∙ same) form longer
    lives.4 alike.1))

-- ---- the whole

pub begun_after : (v : View) (s : ScenarioValue) (lines : List Line) (boot after : MachineValue)
    (unseen later rows : RowsValue)
    → lines ≡ s.lines → boot ≡ booted s.layout → TracesLines v s.names 0 boot lines unseen later after
    → IsStart Written v after rows → IsBegun v s (record { machine = after; view = v; rows = rows })
begun_after v s lines boot after unseen later rows same at traced start = record {
  same = refl;
  lists = traced.lists;
  run =
      subst (λ (m : MachineValue). MakesLines s.names 1 m s.lines traced.lists after) at
      (subst (λ (ls : List Line). MakesLines s.names 1 boot ls traced.lists after) same traced.made);
  begun = start;
}

-- the lines before those that are shown are the scenario's
skipped_are : (v : View) (n k : ℕ) → v.from ≡ n + 1 → skipped v (n + k) ≡ n
skipped_are v n k from = grind arith

pub shown_is_traced : (v : View) (s : ScenarioValue) (came : List Numbered) (names : List (List ℕ))
    (shown : List ℕ) (begun now : LiveValue)
    → v.from ≡ length s.lines + 1 → IsBegun v s begun → AreRead s.names came names
    → LivesThrough (length s.lines + 1) came shown begun now
    → IsTraceOf v (with_lines s came names) (begun.rows.text ++ shown)
shown_is_traced v s came names shown begun now from b read lives =
    let alike = all_written_alike s.names came names read in
    let more : List Line = map (λ c. c.line) came in
    let count : skipped v (length (s.lines ++ more)) ≡ length s.lines =
    ap (λ (k : ℕ). skipped v k) (length-append s.lines more)
    ∙ skipped_are v (length s.lines) (length more) from in
    let front : s.lines ≡ take (skipped v (length (s.lines ++ more))) (s.lines ++ more) =
    sym (take_at s.lines more (skipped v (length (s.lines ++ more))) (sym count)) in
    let back : more ≡ drop (skipped v (length (s.lines ++ more))) (s.lines ++ more) =
    sym (drop_at s.lines more (skipped v (length (s.lines ++ more))) (sym count)) in
    let found = lines_otherwise s.names names 1 (booted s.layout) s.lines b.lists begun.machine b.run in
    let traced : TracesLines v names (length s.lines) begun.machine more begun.rows
    (record now.rows { text = begun.rows.text ++ shown }) now.machine =
    lines_below v names (length s.lines) (length s.lines + 1) begun.machine begun.rows [] came begun.rows.text
    shown begun now (omega arith) b.same (start_form v begun.machine begun.rows b.begun)
    (record { lists = []; made = (refl, refl); drawn = refl }) lives alike in
    record {
      rows = record now.rows { text = begun.rows.text ++ shown };
      traced = record {
        unseen = found.0;
        first = begun.machine;
        begins =
            subst (λ (ls : List Line). MakesLines names 1 (booted s.layout) ls found.0 begun.machine) front
            found.1;
        start = begun.rows;
        begun = b.begun;
        machine = now.machine;
        traced =
            subst (λ (ls : List Line). TracesLines v names (skipped v (length (s.lines ++ more)))
            begun.machine ls begun.rows (record now.rows { text = begun.rows.text ++ shown }) now.machine)
            back
            (rw count traced);
      };
      written = refl;
    }
