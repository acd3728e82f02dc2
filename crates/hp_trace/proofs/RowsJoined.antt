-- Rows that are joined, and shown as text.
use Rattle.std.proofs.Common.{◌≡◌, ℕ, ◌+◌, length, List, [], ◌∷◌, ◌++◌, map, Option, None, refl, sym, ap, subst, ◌∙◌, append_assoc, append-nil, Bool, true, false, Bor}
use Rattle.std.specs.List.{flat_map}
use Rattle.std.specs.Option.{option_to_list}
use Rattle.std.specs.Str.Lines.{lines}
use Rattle.hp_machine.specs.Machine.{MachineValue, booted}
use Rattle.hp_scenario.specs.Scenario.{ScenarioValue}
use Rattle.hp_text.specs.State.{newline}
use Rattle.hp_map.specs.Rounds.{Ends, IsJoinOf, JoinerValue, RoundsValue, Takes, nothing_read}
use Rattle.hp_map.specs.Rows.{RowValue, row_with}
use Rattle.hp_map.specs.declared.row_picture.Move.{Move}
use Rattle.hp_trace.specs.Rows.{AreDrawn, AreJoinedTo, AreMoreShown, AreRowsShown, DrawsIf, IsDrawn, IsJoinedSoFar, IsRow, IsRowShown, IsWritten, Row, RowsValue, SaysAs, drawing, line_rows, no_rows, words}
use Rattle.hp_trace.specs.RowsJoined.{AreEntriesShown, AreShown, IsJoinedText, IsShownAs, IsShownIn, is_line, more_line}
use Rattle.hp_trace.specs.Traces.{AreRowsOf, IsJoinedTraceOf, IsScenarioTraced, IsStart, shown_rows, skipped, start_text}
use Rattle.hp_trace.specs.declared.rows.Form.{Form}
use Rattle.hp_trace.specs.declared.rows.Form.TheVariants.{Joined, Kept}
use Rattle.hp_trace.specs.declared.view.View.{View}

-- ---- as text

shown_more : (xs ys : List RowValue) (old mid new : List ℕ) → AreShown xs old mid → AreShown ys mid new
    → AreShown (xs ++ ys) old new
shown_more [] ys old mid new first second = subst (λ (t : List ℕ). AreShown ys t new) first second
shown_more (x ∷ xs) ys old mid new first second =
    (first.0, first.1, shown_more xs ys first.0 mid new first.2 second)

entries_more : (xs ys : List RoundsValue) (old mid new : List ℕ) → AreEntriesShown xs old mid
    → AreEntriesShown ys mid new → AreEntriesShown (xs ++ ys) old new
entries_more [] ys old mid new first second =
    subst (λ (t : List ℕ). AreEntriesShown ys t new) first second
entries_more (x ∷ xs) ys old mid new first second =
    (first.0, first.1, entries_more xs ys (first.0 ++ more_line x) mid new first.2 second)

pub rows_none : (old : RowsValue) → AreRowsShown [] old old
rows_none old = record { text = old.text; kept = old.kept; shown = refl; is = refl }

pub rows_more : (xs : List RowValue) (x : RowValue) (old mid new : RowsValue) → AreRowsShown xs old mid
    → IsRowShown x mid new → AreRowsShown (xs ++ x ∷ []) old new
rows_more xs x old mid new first second = record {
  text = second.text;
  kept = second.kept;
  shown =
      shown_more xs (x ∷ []) old.text first.text second.text first.shown (
        second.text,
        subst (λ (t : List ℕ). IsShownIn x t second.text)
            (ap (λ (r : RowsValue). r.text) first.is) second.shown,
        refl,
      );
  is =
      second.is
      ∙ ap (λ (r : RowsValue). record r { text = second.text; kept = second.kept }) first.is;
}

-- an entry
pub entry_shown : (entry : RoundsValue) (old mid : RowsValue) (line : List ℕ) → line ≡ more_line entry
    → AreRowsShown entry.rows old mid
    → AreMoreShown (entry ∷ []) old (record mid { text = mid.text ++ line })
entry_shown entry old mid line same rows = record {
  text = mid.text ++ line;
  kept = rows.kept;
  shown = (
    mid.text,
    subst (λ (t : List ℕ). AreShown entry.rows old.text t) (sym (ap (λ (r : RowsValue). r.text) rows.is))
        rows.shown,
    ap (λ (t : List ℕ). mid.text ++ t) same,
  );
  is = ap (λ (r : RowsValue). record r { text = mid.text ++ line }) rows.is;
}

entries_none : (old : RowsValue) → AreMoreShown [] old old
entries_none old = record { text = old.text; kept = old.kept; shown = refl; is = refl }

-- a line
line_in : (row : RowValue) (line old new : List ℕ) → is_line row ≡ true → line ≡ row.asked
    → new ≡ old ++ (line ++ newline) → IsShownIn row old new
line_in row line old new plain same is =
    subst (λ (b : Bool). IsShownAs b row.asked row.answer old new) (sym plain)
    (is ∙ ap (λ (t : List ℕ). old ++ (t ++ newline)) same ∙ sym (append_assoc old row.asked newline))

pub line_shown : (row : RowValue) (old inside : RowsValue) (text line : List ℕ) → old ≡ inside
    → is_line row ≡ true → line ≡ row.asked → text ≡ inside.text ++ (line ++ newline)
    → IsRowShown row old (record inside { text = text })
line_shown row old inside text line same plain asked is =
    subst (λ (r : RowsValue). IsRowShown row r (record inside { text = text })) (sym same) (record {
      text = text;
      kept = inside.kept;
      shown = line_in row line inside.text text plain asked is;
      is = refl;
    })

-- a row that is no line
pub row_shown : (row : RowValue) (old new : RowsValue) → is_line row ≡ false → IsWritten row old new
    → IsRowShown row old new
row_shown row old new drawn w = record {
  text = w.text;
  kept = w.kept;
  shown =
      subst (λ (b : Bool). IsShownAs b row.asked row.answer old.text w.text) (sym drawn) w.written;
  is = w.is;
}

pub nothing_shown : (entry : Option RoundsValue) (old : RowsValue) → entry ≡ None
    → AreMoreShown (option_to_list entry) old old
nothing_shown entry old none =
    subst (λ (e : Option RoundsValue). AreMoreShown (option_to_list e) old old) (sym none) (entries_none old)

-- ---- rows that come one after another

pub none_to : (old : RowsValue) → AreJoinedTo [] old old
none_to old = record {
  form = refl;
  all =
      λ rows so. subst (λ (rs : List RowValue). IsJoinedSoFar rs old) (sym (append-nil rows)) so;
}

pub more_to : (xs ys : List RowValue) (old mid new : RowsValue) → AreJoinedTo xs old mid
    → AreJoinedTo ys mid new → AreJoinedTo (xs ++ ys) old new
more_to xs ys old mid new first second = record {
  form = second.form ∙ first.form;
  all =
      λ rows so.
      subst (λ (rs : List RowValue). IsJoinedSoFar rs new) (append_assoc rows xs ys)
      (second.all (rows ++ xs) (first.all rows so));
}

joined_with : (row : RowValue) (gone : Option RoundsValue) (j : JoinerValue) (old : RowsValue)
    (text : List ℕ) (kept : List RowValue) → Takes row gone old.joiner j
    → AreEntriesShown (option_to_list gone) old.text text
    → AreJoinedTo (row ∷ []) old (record old { text = text; kept = kept; joiner = j })
joined_with row gone j old text kept takes shown = record {
  form = refl;
  all =
      λ rows so. record {
        done = so.done ++ option_to_list gone;
        read = takes so.done rows so.read;
        shown = entries_more so.done (option_to_list gone) [] old.text text so.shown shown;
      };
}

pub row_joined : (row : RowValue) (gone : Option RoundsValue) (j : JoinerValue) (old new : RowsValue)
    → Takes row gone old.joiner j → AreMoreShown (option_to_list gone) (record old { joiner = j }) new
    → AreJoinedTo (row ∷ []) old new
row_joined row gone j old new takes more =
    subst (λ (r : RowsValue). AreJoinedTo (row ∷ []) old r) (sym more.is)
    (joined_with row gone j old more.text more.kept takes more.shown)

pub row_joined_in : (row : RowValue) (gone : Option RoundsValue) (j : JoinerValue)
    (old inside new : RowsValue) → old ≡ inside → Takes row gone inside.joiner j
    → AreMoreShown (option_to_list gone) (record inside { joiner = j }) new → AreJoinedTo (row ∷ []) old new
row_joined_in row gone j old inside new same takes more =
    subst (λ (r : RowsValue). AreJoinedTo (row ∷ []) r new) (sym same)
    (row_joined row gone j inside new takes more)

all_shown : (gone last : Option RoundsValue) (j : JoinerValue) (old mid new : RowsValue)
    → Ends old.joiner (option_to_list gone ++ option_to_list last)
    → AreMoreShown (option_to_list gone) (record old { joiner = j }) mid
    → AreMoreShown (option_to_list last) mid new
    → (rows : List RowValue) → IsJoinedSoFar rows old → IsJoinedText rows new.text
all_shown gone last j old mid new ends first second = λ rows so.
    let second_shown : AreEntriesShown (option_to_list last) first.text new.text =
    subst (λ (t : List ℕ). AreEntriesShown (option_to_list last) t new.text)
    (ap (λ (r : RowsValue). r.text) first.is)
    (subst (λ (t : List ℕ). AreEntriesShown (option_to_list last) mid.text t)
    (sym (ap (λ (r : RowsValue). r.text) second.is)) second.shown) in
    record {
      entries = so.done ++ (option_to_list gone ++ option_to_list last);
      joined = ends so.done rows so.read;
      shown =
          entries_more so.done (option_to_list gone ++ option_to_list last) [] old.text new.text so.shown
          (entries_more (option_to_list gone) (option_to_list last) old.text first.text new.text first.shown
          second_shown);
    }

pub all_joined : (gone last : Option RoundsValue) (j : JoinerValue) (old inside mid new : RowsValue)
    (text : List ℕ) → old ≡ inside → Ends inside.joiner (option_to_list gone ++ option_to_list last)
    → AreMoreShown (option_to_list gone) (record inside { joiner = j }) mid
    → AreMoreShown (option_to_list last) mid new → text ≡ new.text
    → (rows : List RowValue) → IsJoinedSoFar rows old → IsJoinedText rows text
all_joined gone last j old inside mid new text same ends first second is = λ rows so.
    subst (λ (t : List ℕ). IsJoinedText rows t) (sym is)
    (all_shown gone last j inside mid new ends first second rows
    (subst (λ (r : RowsValue). IsJoinedSoFar rows r) same so))

-- a line more
lines_more : (texts : List (Bor (List ℕ))) (line : Bor (List ℕ))
    → line_rows (map (λ t. t.now) (texts ++ line ∷ []))
    ≡ line_rows (map (λ t. t.now) texts) ++ row_with line.now [] None [] ∷ []
lines_more [] line = refl
lines_more (t ∷ texts) line =
    ap (λ (rows : List RowValue). row_with t.now [] None [] ∷ rows) (lines_more texts line)

pub line_joined : (texts : List (Bor (List ℕ))) (line : Bor (List ℕ)) (row : RowValue)
    (old mid new : RowsValue) → row ≡ row_with line.now [] None []
    → AreJoinedTo (line_rows (map (λ t. t.now) texts)) old mid → AreJoinedTo (row ∷ []) mid new
    → AreJoinedTo (line_rows (map (λ t. t.now) (texts ++ line ∷ []))) old new
line_joined texts line row old mid new is first second =
    subst (λ (rows : List RowValue). AreJoinedTo rows old new) (sym (lines_more texts line))
    (subst (λ (r : RowValue). AreJoinedTo (line_rows (map (λ t. t.now) texts) ++ r ∷ []) old new) is
    (more_to (line_rows (map (λ t. t.now) texts)) (row ∷ []) old mid new first second))

-- ---- the rows of a trace, joined and as values

abbrev with_kept : RowsValue → List RowValue → RowsValue
with_kept r values = record r { kept = r.kept ++ values }

-- rows that were joined are the same as values
record AreBoth (list : List Row) (old new : RowsValue) : Type 0 where
  values : List RowValue
  joined : AreJoinedTo values old new
  kept : (r : RowsValue) → r.form ≡ Kept → AreDrawn list r (with_kept r values)

both_none : (old : RowsValue) → AreBoth [] old old
both_none old = record {
  values = [];
  joined = none_to old;
  kept = λ r is. ap (λ (rs : List RowValue). record r { kept = rs }) (append-nil r.kept);
}

both_more : (row : Row) (list : List Row) (xs : List RowValue) (old mid new : RowsValue)
    → AreJoinedTo xs old mid → ((r : RowsValue) → r.form ≡ Kept → IsDrawn row r (with_kept r xs))
    → AreBoth list mid new → AreBoth (row ∷ list) old new
both_more row list xs old mid new first drawn rest = record {
  values = xs ++ rest.values;
  joined = more_to xs rest.values old mid new first rest.joined;
  kept =
      λ r is. (
        with_kept r xs,
        drawn r is,
        subst (λ (rs : List RowValue). AreDrawn list (with_kept r xs) (record r { kept = rs }))
            (append_assoc r.kept xs rest.values) (rest.kept (with_kept r xs) is),
      );
}

both : (list : List Row) (old new : RowsValue) → old.form ≡ Joined → AreDrawn list old new
    → AreBoth list old new
both [] old new is drawn = subst (λ (r : RowsValue). AreBoth [] old r) (sym drawn) (both_none old)
both (drawing asked answer moved m ∷ list) old new is drawn =
    let row : IsRow Joined m asked answer moved old drawn.0 =
    subst (λ (f : Form). DrawsIf f m asked answer moved old drawn.0) is drawn.1 in
    both_more (drawing asked answer moved m) list (row_with asked answer moved row.blocks ∷ []) old drawn.0
    new row.added
    (λ r form.
    subst (λ (f : Form). DrawsIf f m asked answer moved r
    (with_kept r (row_with asked answer moved row.blocks ∷ []))) (sym form)
    (record { blocks = row.blocks; picture = row.picture; added = refl }))
    (both list drawn.0 new (row.added.form ∙ is) drawn.2)
both (words text ∷ list) old new is drawn =
    let said : AreJoinedTo (line_rows (lines text)) old drawn.0 =
    subst (λ (f : Form). SaysAs f text old drawn.0) is drawn.1 in
    both_more (words text) list (line_rows (lines text)) old drawn.0 new said
    (λ r form.
    subst (λ (f : Form). SaysAs f text r (with_kept r (line_rows (lines text)))) (sym form) refl)
    (both list drawn.0 new (said.form ∙ is) drawn.2)

none_so_far : IsJoinedSoFar [] (no_rows Joined)
none_so_far = record { done = []; read = (refl, refl, refl); shown = refl }

pub trace_joined : (v : View) (s : ScenarioValue) (rows : RowsValue) (text : List ℕ)
    → IsScenarioTraced Joined v s rows
    → ((list : List RowValue) → IsJoinedSoFar list rows → IsJoinedText list text)
    → IsJoinedTraceOf v s text
trace_joined v s rows text t ends =
    let list : List Row =
    shown_rows v (skipped v (length s.lines) + 1) t.traced.lists in
    let all = both (drawing (start_text v) [] None t.first ∷ list) (no_rows Joined) rows refl
    (t.start, t.begun, t.traced.drawn) in
    let kept = all.kept (no_rows Kept) refl in
    record {
      list = all.values;
      rows = record {
        rows = with_kept (no_rows Kept) all.values;
        traced = record {
          unseen = t.unseen;
          first = t.first;
          begins = t.begins;
          start = kept.0;
          begun = kept.1;
          machine = t.machine;
          traced = record { lists = t.traced.lists; made = t.traced.made; drawn = kept.2 };
        };
        kept = refl;
      };
      joined = ends all.values (all.joined.all [] none_so_far);
    }
