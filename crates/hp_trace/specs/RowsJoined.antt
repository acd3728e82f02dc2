-- A text of rows in which equal rounds are joined.
use Rattle.std.specs.Prelude.{ℕ, ◌≡◌, ◌==◌, ◌&&◌, Bool, true, false, List, [], ◌∷◌, ◌++◌, codes, length, if◌then◌else◌}
use Rattle.hp_map.specs.Rounds.{IsJoinOf, RoundsValue, more_text}
use Rattle.hp_map.specs.Rows.{RowValue}
use Rattle.hp_text.specs.State.{newline}
use Rattle.hp_trace.specs.Columns.{IsRowIn}

-- the row is a line of text: it has no answer and no memory blocks
abbrev pub is_line : RowValue → Bool
is_line row = (length row.answer == 0) && (length row.blocks == 0)

-- one more row was added to a text: either a line of text as it is, or any other row with its
-- answer
abbrev pub IsShownAs : (is_a_line : Bool) → (asked answer old new : List ℕ) → Type 0
IsShownAs true asked answer old new = new ≡ old ++ asked ++ newline
IsShownAs false asked answer old new = IsRowIn asked answer old new

-- one more row was added to the text
abbrev pub IsShownIn : RowValue → (old new : List ℕ) → Type 0
IsShownIn row old new = IsShownAs (is_line row) row.asked row.answer old new

-- these rows were added to the text, one after another
abbrev pub AreShown : List RowValue → (old new : List ℕ) → Type 0
AreShown [] old new = new ≡ old
AreShown (row ∷ rows) old new = (mid : List ℕ) × IsShownIn row old mid × AreShown rows mid new

-- the line about the rounds that are not shown; the empty text if all rounds are shown
abbrev pub more_line : RoundsValue → List ℕ
more_line r = if r.more == 0 then [] else codes "     " ++ more_text r ++ newline

-- these entries were added to the text: the rows of each, and the line about the repeated rounds
-- that are not shown
abbrev pub AreEntriesShown : List RoundsValue → (old new : List ℕ) → Type 0
AreEntriesShown [] old new = new ≡ old
AreEntriesShown (r ∷ rest) old new =
    (mid : List ℕ) × AreShown r.rows old mid × AreEntriesShown rest (mid ++ more_line r) new

-- the text shows these rows: each row either is shown, or is in a round that repeats the round
-- right above it
pub record IsJoinedText (rows : List RowValue) (text : List ℕ) : Type 0 where
  pub entries : List RoundsValue
  pub joined : IsJoinOf rows entries
  pub shown : AreEntriesShown entries [] text
