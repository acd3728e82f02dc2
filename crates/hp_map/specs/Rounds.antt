-- Rows of a trace, in which the equal rounds of a plan's calls are joined.
use Rattle.std.specs.Prelude.{ℕ, zero, suc, ◌≡◌, ◌+◌, ◌*◌, ◌-◌, ◌==◌, ◌&&◌, ◌||◌, nat_eq, nat_lt, Bool, true, false, List, [], ◌∷◌, ◌++◌, codes, length, map, slice_get, Option, None, Some, unwrap_or, ⊤, ◌⊎◌, if◌then◌else◌}
use Rattle.std.specs.Option.{option_and_then, option_to_list}
use Rattle.std.specs.Fmt.{decimal}
use Rattle.std.specs.List.{after_first, before_first, flat_map, list_all, position_or_len, starts_with}
use Rattle.hp_units.specs.NumberWords.{number_of}
use Rattle.hp_map.specs.BlockPictures.{BlockValue}
use Rattle.hp_map.specs.Rows.{RowValue, row_with}

-- ---- the calls of a plan

-- the row is a migration, which begins a round
abbrev pub begins_round : RowValue → Bool
begins_round row = starts_with nat_eq row.asked (codes "     migrate ")

-- the row is a drain or a commit, which continues a round
abbrev pub continues_round : RowValue → Bool
continues_round row =
    starts_with nat_eq row.asked (codes "     drainfor ")
    || starts_with nat_eq row.asked (codes "     commit ")

-- the first of the rows begins a round
abbrev pub is_round : List RowValue → Bool
is_round [] = false
is_round (first ∷ rest) = begins_round first

-- the rows begin a round, and this row continues it
abbrev pub goes_on : List RowValue → RowValue → Bool
goes_on rows row = is_round rows && continues_round row

-- the rows are either a round or a single row that belongs to no round
abbrev pub is_whole : List RowValue → Bool
is_whole [] = false
is_whole (first ∷ rest) = list_all (λ row. goes_on (first ∷ []) row) rest

-- ---- a round that repeats another

-- the texts before and after the first colon; None without a colon
unfoldable pub halves_of : List ℕ → Option (List ℕ × List ℕ)
halves_of answer =
    if nat_lt (position_or_len (λ b. b == 58) answer) (length answer) then Some
    (before_first (λ b. b == 58) answer, after_first (λ b. b == 58) answer)
    else None

-- the serial with which an answer begins; None if it begins with none
abbrev pub serial_of : List ℕ → Option ℕ
serial_of answer = option_and_then (λ halves. number_of 64 halves.0) (halves_of answer)

-- the serial raised by n, then a colon and `words`; the unchanged answer, if there is no serial
abbrev pub counted : (n : ℕ) → (answer words : List ℕ) → (serial : Option ℕ) → List ℕ
counted n answer words None = answer
counted n answer words (Some serial) = decimal (serial + n) ++ codes ":" ++ words

-- the answer with its serial raised by n, given the texts before and after its first colon;
-- unchanged if it has no colon or begins with no serial
abbrev pub counted_in : (n : ℕ) → (answer : List ℕ) → Option (List ℕ × List ℕ) → List ℕ
counted_in n answer None = answer
counted_in n answer (Some halves) = counted n answer halves.1 (number_of 64 halves.0)

-- the answer with its serial raised by n; unchanged if it begins with no serial
abbrev pub counted_on : (n : ℕ) → (answer : List ℕ) → List ℕ
counted_on n answer = counted_in n answer (halves_of answer)

-- the memory blocks of a row; none without a row
abbrev pub blocks_in : Option RowValue → List BlockValue
blocks_in None = []
blocks_in (Some row) = row.blocks

-- the memory after the last row
abbrev pub memory_after : List RowValue → List BlockValue
memory_after rows = blocks_in (slice_get rows (length rows - 1))

-- the row of a repeated call, n serials later: it has the same reply, moves no page, and leaves the
-- memory as it was
abbrev pub next_row : (n : ℕ) → (memory : List BlockValue) → RowValue → RowValue
next_row n memory row = row_with row.asked (counted_on n row.answer) None memory

-- the n-th repetition of a round
abbrev pub next_round : (n : ℕ) → List RowValue → List RowValue
next_round n rows = map (next_row (n * length rows) (memory_after rows)) rows

-- ---- rows in which equal rounds are joined

-- either a round, with the number of rounds right after it that repeat it, or a single row that
-- belongs to no round, with 0 as `more`
pub record RoundsValue : Type 0 where
  pub rows : List RowValue
  pub more : ℕ

-- an entry that nothing repeats so far
abbrev pub once : List RowValue → RoundsValue
once rows = record { rows = rows; more = 0 }

-- the rows of the first `more` repetitions of a round
abbrev pub more_rows : List RowValue → (more : ℕ) → List RowValue
more_rows rows zero = []
more_rows rows (suc n) = more_rows rows n ++ next_round (suc n) rows

-- all rows of an entry, with its repetitions
abbrev pub all_rows : RoundsValue → List RowValue
all_rows r = r.rows ++ more_rows r.rows r.more

-- the entry is a round with `more` repetitions, and the rows are its next repetition
abbrev pub IsOneMore : RoundsValue → List RowValue → Type 0
IsOneMore r rows = (is_round r.rows ≡ true) × (rows ≡ next_round (suc r.more) r.rows)

-- the rows of an entry are a round or a single row; only a round is repeated
pub record IsEntry (r : RoundsValue) : Type 0 where
  pub whole : is_whole r.rows ≡ true
  pub round : is_round r.rows ≡ false → r.more ≡ 0

-- the first of the next rows continues the round that `rows` begin
abbrev pub goes_on_with : List RowValue → List RowValue → Bool
goes_on_with rows [] = false
goes_on_with rows (next ∷ rest) = goes_on rows next

-- the rows of the next entry neither continue this entry's round nor repeat it
pub record IsApart (r next : RoundsValue) : Type 0 where
  pub ended : goes_on_with r.rows next.rows ≡ false
  pub other : IsOneMore r next.rows → ⊥

-- the entry is apart from the entry right after it, if there is one
abbrev pub IsBefore : RoundsValue → List RoundsValue → Type 0
IsBefore r [] = ⊤
IsBefore r (next ∷ rest) = IsApart r next

-- each round is joined with all repetitions that come right after it
abbrev pub AreJoined : List RoundsValue → Type 0
AreJoined [] = ⊤
AreJoined (r ∷ rest) = IsEntry r × IsBefore r rest × AreJoined rest

-- the entries have exactly these rows, in this order, and each round is joined with the repetitions
-- that come right after it
pub record IsJoinOf (rows : List RowValue) (entries : List RoundsValue) : Type 0 where
  pub all : flat_map all_rows entries ≡ rows
  pub joined : AreJoined entries

-- ---- joining row by row

-- the last entry so far, and the rows after it: none, a round that may go on, or one row that
-- belongs to no round
pub record JoinerValue : Type 0 where
  pub last : Option RoundsValue
  pub rest : List RowValue

-- the joiner before the first row
abbrev pub nothing_read : JoinerValue
nothing_read = record { last = None; rest = [] }

-- the rows read so far are those of the finished entries `done`, those of the entry `last`, and the
-- rows `left`. In the entries, equal rounds are joined. `left` are a round, or a single row that
-- does not continue the round of `last`; they are none only before the first row
abbrev pub HasRead : (done : List RoundsValue) → (last : Option RoundsValue) → (left rows : List RowValue)
    → Type 0
HasRead done last [] rows = (done ≡ []) × (last ≡ None) × (rows ≡ [])
HasRead done None (row ∷ left) rows =
    (is_whole (row ∷ left) ≡ true) × (done ≡ []) × (rows ≡ row ∷ left)
HasRead done (Some last) (row ∷ left) rows =
    (is_whole (row ∷ left) ≡ true) × (goes_on last.rows row ≡ false) × AreJoined (done ++ last ∷ [])
    × (rows ≡ flat_map all_rows (done ++ last ∷ []) ++ row ∷ left)

-- the joiner has read these rows; `done` are the finished entries
abbrev pub Reads : (done : List RoundsValue) → JoinerValue → (rows : List RowValue) → Type 0
Reads done j rows = HasRead done j.last j.rest rows

-- one more row was read; the entry `gone`, if there is one, is now finished
abbrev pub Takes : RowValue → (gone : Option RoundsValue) → (old new : JoinerValue) → Type 0
Takes row gone old new =
    (done : List RoundsValue) (rows : List RowValue) → Reads done old rows
    → Reads (done ++ option_to_list gone) new (rows ++ row ∷ [])

-- all rows have been read; `ends` are the entries after the finished ones
abbrev pub Ends : JoinerValue → (ends : List RoundsValue) → Type 0
Ends j ends =
    (done : List RoundsValue) (rows : List RowValue) → Reads done j rows → IsJoinOf rows (done ++ ends)

-- either the rows repeat the last entry and are joined to it, or they make a new entry
abbrev pub JoinsTo : (last : Option RoundsValue) → (rows : List RowValue) → (gone : Option RoundsValue)
    → (now : RoundsValue) → Type 0
JoinsTo None rows gone now = (gone ≡ None) × (now ≡ once rows)
JoinsTo (Some last) rows gone now =
    (IsOneMore last rows × (gone ≡ None) × (now ≡ record last { more = suc last.more }))
    ⊎ ((IsOneMore last rows → ⊥) × (gone ≡ Some last) × (now ≡ once rows))

-- ---- a line about the rounds that are not shown

-- the serial of the first of these rows; 0 without one
abbrev pub first_serial : List RowValue → ℕ
first_serial [] = 0
first_serial (first ∷ rest) = unwrap_or (serial_of first.answer) 0

-- the words after the number of further rounds
abbrev pub rounds_word : (more : ℕ) → List ℕ
rounds_word more =
    if more == 1 then codes " more round like this, serials "
    else codes " more rounds like this, serials "

-- the text about the further rounds: their number, and the serials of their calls
abbrev pub more_text : RoundsValue → List ℕ
more_text r =
    codes "(" ++ decimal r.more ++ rounds_word r.more
    ++ decimal (first_serial r.rows + length r.rows) ++ codes " to "
    ++ decimal (first_serial r.rows + (length r.rows * (r.more + 1) - 1)) ++ codes ")"
