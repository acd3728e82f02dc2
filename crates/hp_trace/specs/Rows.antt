-- The rows of a trace: each has a request, its answer, if there is one, and the memory after it.
-- Below a row there may be a text of lines, which has none of these.
use Rattle.std.specs.Prelude.{ℕ, ◌≡◌, List, [], ◌∷◌, ◌++◌, map, Option, None, Some}
use Rattle.std.proofs.Common.{subst}
use Rattle.std.specs.Str.Lines.{lines}
use Rattle.hp_machine.specs.Machine.{MachineValue}
use Rattle.hp_map.specs.Pictures.{IsPicture}
use Rattle.hp_map.specs.BlockPictures.{BlockValue}
use Rattle.hp_map.specs.Rounds.{JoinerValue, Reads, RoundsValue, nothing_read}
use Rattle.hp_map.specs.Rows.{RowValue, row_with}
use Rattle.hp_map.specs.declared.row_picture.Move.{Move}
use Rattle.hp_trace.specs.Columns.{IsRowIn}
use Rattle.hp_trace.specs.RowsJoined.{AreEntriesShown, AreShown, IsShownIn}
use Rattle.hp_trace.specs.StateLogs.{IsLogged, LogValue, no_log}
use Rattle.hp_trace_json.specs.Ascii.{AddsLine}
use Rattle.hp_trace_json.specs.Parts.{state_of}
use Rattle.hp_trace_json.specs.Traces.{TraceValue, no_trace}
use Rattle.hp_trace.specs.declared.rows.Form.{Form}
use Rattle.hp_trace.specs.declared.rows.Form.TheVariants.{Joined, Kept, Logged, Told, Unseen, Written}

-- the form of the rows, and the rows so far: as text, as values that are kept, as a log, as JSON,
-- and in the joiner of equal rounds
pub record RowsValue : Type 0 where
  pub form : Form
  pub text : List ℕ
  pub kept : List RowValue
  pub log : LogValue
  pub json : TraceValue
  pub joiner : JoinerValue

-- no rows yet, in this form
abbrev pub no_rows : Form → RowsValue
no_rows form = record {
  form = form;
  text = [];
  kept = [];
  log = no_log;
  json = no_trace;
  joiner = nothing_read;
}

-- one row for each line of text, without memory blocks
abbrev pub line_rows : (texts : List (List ℕ)) → List RowValue
line_rows texts = map (λ text. row_with text [] None []) texts

-- one more line of JSON was added for a text; it shows no state
pub record IsTextTold (old new : RowsValue) : Type 0 where
  pub json : TraceValue
  pub line : AddsLine old.json.text json.text
  pub seen : json.seen ≡ old.json.seen
  pub is : new ≡ record old { json = json }

-- ---- rows that are joined

-- `rows` are all rows that were added so far. The text and the joiner of `r` have them, with equal
-- rounds joined
pub record IsJoinedSoFar (rows : List RowValue) (r : RowsValue) : Type 0 where
  pub done : List RoundsValue
  pub read : Reads done r.joiner rows
  pub shown : AreEntriesShown done [] r.text

-- the rows `more` were added, with equal rounds joined
pub record AreJoinedTo (more : List RowValue) (old new : RowsValue) : Type 0 where
  pub form : new.form ≡ old.form
  pub all : (rows : List RowValue) → IsJoinedSoFar rows old → IsJoinedSoFar (rows ++ more) new

-- ---- texts

-- a text of lines was added, in this form; `Unseen` and `Logged` add none
abbrev pub SaysAs : Form → (text : List ℕ) → (old new : RowsValue) → Type 0
SaysAs Unseen text old new = new ≡ old
SaysAs Written text old new = new ≡ record old { text = old.text ++ text }
SaysAs Joined text old new = AreJoinedTo (line_rows (lines text)) old new
SaysAs Kept text old new = new ≡ record old { kept = old.kept ++ line_rows (lines text) }
SaysAs Logged text old new = new ≡ old
SaysAs Told text old new = IsTextTold old new

-- a text of lines was added, in the form of the rows
abbrev pub Says : (text : List ℕ) → (old new : RowsValue) → Type 0
Says text old new = SaysAs old.form text old new

-- ---- a row

-- one more row was added to the text. `kept` may change
pub record IsWritten (row : RowValue) (old new : RowsValue) : Type 0 where
  pub text : List ℕ
  pub kept : List RowValue
  pub written : IsRowIn row.asked row.answer old.text text
  pub is : new ≡ record old { text = text; kept = kept }

-- either one more row or one more line was added to the text
pub record IsRowShown (row : RowValue) (old new : RowsValue) : Type 0 where
  pub text : List ℕ
  pub kept : List RowValue
  pub shown : IsShownIn row old.text text
  pub is : new ≡ record old { text = text; kept = kept }

-- rows and lines were added to the text
pub record AreRowsShown (rows : List RowValue) (old new : RowsValue) : Type 0 where
  pub text : List ℕ
  pub kept : List RowValue
  pub shown : AreShown rows old.text text
  pub is : new ≡ record old { text = text; kept = kept }

-- entries were added to the text; each is a round with the number of its repeats, or one row
pub record AreMoreShown (entries : List RoundsValue) (old new : RowsValue) : Type 0 where
  pub text : List ℕ
  pub kept : List RowValue
  pub shown : AreEntriesShown entries old.text text
  pub is : new ≡ record old { text = text; kept = kept }

-- one more row was added, in this form; `Unseen`, `Logged` and `Told` add none here
abbrev pub AddsRow : Form → RowValue → (old new : RowsValue) → Type 0
AddsRow Unseen row old new = new ≡ old
AddsRow Written row old new = IsWritten row old new
AddsRow Joined row old new = AreJoinedTo (row ∷ []) old new
AddsRow Kept row old new = new ≡ record old { kept = old.kept ++ row ∷ [] }
AddsRow Logged row old new = new ≡ old
AddsRow Told row old new = new ≡ old

-- one more row was added, with the page that moved and a picture of the machine's memory
pub record IsRow (form : Form) (m : MachineValue) (asked answer : List ℕ) (moved : Option Move)
    (old new : RowsValue) : Type 0 where
  pub blocks : List BlockValue
  pub picture : IsPicture m.layout m.state blocks
  pub added : AddsRow form (row_with asked answer moved blocks) old new

-- the events that lead to the machine's state were added to the log
pub record IsRowLogged (m : MachineValue) (old new : RowsValue) : Type 0 where
  pub log : LogValue
  pub logged : IsLogged m old.log log
  pub is : new ≡ record old { log = log }

-- one more line of JSON was added for a row; a reader of the rows has then seen the machine's state
pub record IsRowTold (m : MachineValue) (old new : RowsValue) : Type 0 where
  pub json : TraceValue
  pub line : AddsLine old.json.text json.text
  pub seen : json.seen ≡ Some (state_of m)
  pub is : new ≡ record old { json = json }

-- one more row was added in this form; `Unseen` adds none
abbrev pub DrawsIf : Form → MachineValue → (asked answer : List ℕ) → (moved : Option Move)
    → (old new : RowsValue) → Type 0
DrawsIf Unseen m asked answer moved old new = new ≡ old
DrawsIf Written m asked answer moved old new = IsRow Written m asked answer moved old new
DrawsIf Joined m asked answer moved old new = IsRow Joined m asked answer moved old new
DrawsIf Kept m asked answer moved old new = IsRow Kept m asked answer moved old new
DrawsIf Logged m asked answer moved old new = IsRowLogged m old new
DrawsIf Told m asked answer moved old new = IsRowTold m old new

-- ---- rows one under another

-- either a row, with its request, its answer, the page that moved and the machine whose memory is
-- drawn, or a text of lines below a row
pub data Row : Type 0 where
  drawing : (asked answer : List ℕ) → (moved : Option Move) → MachineValue → Row
  words : (text : List ℕ) → Row

-- the row or the text was drawn, in the form of the rows
abbrev pub IsDrawn : Row → (old new : RowsValue) → Type 0
IsDrawn (drawing asked answer moved m) old new = DrawsIf old.form m asked answer moved old new
IsDrawn (words text) old new = Says text old new

-- the rows and texts were drawn, one after another
abbrev pub AreDrawn : List Row → (old new : RowsValue) → Type 0
AreDrawn [] old new = new ≡ old
AreDrawn (row ∷ rows) old new = (mid : RowsValue) × IsDrawn row old mid × AreDrawn rows mid new

-- a row without an answer, and a text below it
abbrev pub noted : MachineValue → (asked text : List ℕ) → List Row
noted m asked text = drawing asked [] None m ∷ words text ∷ []

-- rows with the property P were drawn
pub record Adds (old new : RowsValue) (P : List Row → Type 0) : Type 0 where
  pub rows : List Row
  pub drawn : AreDrawn rows old new
  pub is : P rows

-- two lists of rows, drawn one after the other, are drawn as one list
pub drawn_joined : (xs ys : List Row) (old mid new : RowsValue) → AreDrawn xs old mid → AreDrawn ys mid new
    → AreDrawn (xs ++ ys) old new
drawn_joined [] ys old mid new first second = subst (λ (r : RowsValue). AreDrawn ys r new) first second
drawn_joined (x ∷ xs) ys old mid new first second =
    (first.0, first.1, drawn_joined xs ys first.0 mid new first.2 second)
