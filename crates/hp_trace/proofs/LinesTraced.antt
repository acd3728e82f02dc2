-- Lines that are traced one after another.
use Rattle.std.proofs.Common.{◌≡◌, ℕ, ◌+◌, ◌<◌, List, [], ◌∷◌, ◌++◌, length, get_or, drop, take, refl, ap, append_assoc, append-nil, arith}
use Rattle.std.proofs.lemmas.List.{length-take-le, take_more}
use Rattle.hp_machine.specs.Machine.{MachineValue, booted}
use Rattle.hp_scenario.specs.Asked.{asked_by}
use Rattle.hp_scenario.specs.Scenario.{ScenarioValue}
use Rattle.hp_scenario.specs.declared.lines.Line.{Line}
use Rattle.hp_trace.specs.Calls.{MakesWork}
use Rattle.hp_trace.specs.Rows.{Row, RowsValue, drawn_joined}
use Rattle.hp_trace.specs.Traces.{IsScenarioTraced, IsStart, MakesLines, TracesLine, TracesLines, numbered_text, rows_if, shown_rows, skipped}
use Rattle.hp_trace.specs.Views.{shows}
use Rattle.hp_trace.specs.declared.rows.Form.{Form}
use Rattle.hp_trace.specs.declared.view.View.{View}

made_length : (names : List (List ℕ)) (first : ℕ) (xs : List Line) (m after : MachineValue)
    (lists : List (List Row))
    → MakesLines names first m xs lists after → length lists ≡ length xs
made_length names first [] m after lists made = ap (λ (l : List (List Row)). length l) made.1
made_length names first (x ∷ xs) m after lists made =
    rw (made.4, made_length names (first + 1) xs made.0 after made.2 made.5)

made_more : (names : List (List ℕ)) (first last : ℕ) (xs : List Line) (line : Line)
    (m mid after : MachineValue) (lists : List (List Row)) (rows : List Row)
    → last ≡ first + length xs
    → MakesLines names first m xs lists mid
    → MakesWork mid line.cpu (asked_by line.work) (numbered_text names last line) rows after
    → MakesLines names first m (xs ++ line ∷ []) (lists ++ rows ∷ []) after
made_more names first last [] line m mid after lists rows at made one =
    let here : first ≡ last = omega (arith, at) in
    let work = rw (made.0) at one in
    (after, rows, [], rw here work, ap (λ (l : List (List Row)). l ++ rows ∷ []) made.1, (refl, refl))
made_more names first last (x ∷ xs) line m mid after lists rows at made one =
    let here : last ≡ (first + 1) + length xs = omega (arith, at) in (
      made.0,
      made.1,
      made.2 ++ rows ∷ [],
      made.3,
      ap (λ (l : List (List Row)). l ++ rows ∷ []) made.4,
      made_more names (first + 1) last xs line made.0 mid after made.2 rows here made.5 one,
    )

shown_more : (v : View) (first last : ℕ) (lists : List (List Row)) (rows : List Row)
    → last ≡ first + length lists
    → shown_rows v first (lists ++ rows ∷ []) ≡ shown_rows v first lists ++ rows_if (shows v last) rows
shown_more v first last [] rows at = grind (arith, append-nil)
shown_more v first last (l ∷ ls) rows at =
    let here : last ≡ (first + 1) + length ls = omega (arith, at) in
    rw (shown_more v (first + 1) last ls rows here, ← append_assoc)

-- one more line after others
pub line_more : (v : View) (names : List (List ℕ)) (before number : ℕ) (lines : List Line) (line : Line)
    (m mid after : MachineValue) (old between new : RowsValue)
    → number ≡ before + 1 + length lines
    → TracesLines v names before m lines old between mid
    → TracesLine v names number mid line between new after
    → TracesLines v names before m (lines ++ line ∷ []) old new after
line_more v names before number lines line m mid after old between new at traced one =
    let made : length traced.lists ≡ length lines =
    made_length names (before + 1) lines m mid traced.lists traced.made in
    record {
      lists = traced.lists ++ one.rows ∷ [];
      made =
          made_more names (before + 1) number lines line m mid after traced.lists one.rows at traced.made
          one.made;
      drawn = rw (shown_more v (before + 1) number traced.lists one.rows (omega (arith, at, made)))
          (drawn_joined (shown_rows v (before + 1) traced.lists) (rows_if (shows v number) one.rows) old
          between new traced.drawn one.drawn);
    }

-- one more line of a loop over lines
pub lines_more : (v : View) (names : List (List ℕ)) (before : ℕ) (lines : List Line) (i : ℕ) (line : Line)
    (m mid after : MachineValue) (old between new : RowsValue)
    → i < length lines → line ≡ get_or lines i line
    → TracesLines v names before m (take i lines) old between mid
    → TracesLine v names (before + i + 1) mid line between new after
    → TracesLines v names before m (take (i + 1) lines) old new after
lines_more v names before lines i line m mid after old between new within at traced one =
    let count : length (take i lines) ≡ i = length-take-le i lines (omega (arith, within)) in
    rw (take_more lines i line within, ← at) (line_more v names before (before + i + 1) (take i lines) line m
    mid after old between new (omega (arith, count)) traced one)

-- the lines before those that may be shown, and the others
pub scenario_traced : (form : Form) (v : View) (s : ScenarioValue) (lines front back : List Line) (n : ℕ)
    (unseen later start rows : RowsValue) (boot mid after : MachineValue)
    → lines ≡ s.lines → n ≡ skipped v (length lines) → front ≡ take n lines → back ≡ drop n lines
    → boot ≡ booted s.layout → TracesLines v s.names 0 boot front unseen later mid
    → IsStart form v mid start → TracesLines v s.names n mid back start rows after
    → IsScenarioTraced form v s rows
scenario_traced form v s lines front back n unseen later start rows boot mid after same count at_front
    at_back at first begun traced =
    grind arith
