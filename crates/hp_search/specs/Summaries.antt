-- A summary of ends, with one line per end.
use Rattle.std.specs.Prelude.{◌≡◌, ℕ, ◌+◌, List, ◌++◌, [], Option, Some, codes, length, slice_get}
use Rattle.std.specs.Fmt.{decimal}
use Rattle.std.specs.List.{flat_map}
use Rattle.hp_schedules.specs.declared.multinomials.HowMany.{HowMany}
use Rattle.hp_schedules.specs.declared.tally.Ending.{Ending}
use Rattle.hp_search.specs.Words.{counts_text}

-- the text `new` begins with the text `old`
abbrev pub Continues : (old new : List ℕ) → Type 0
Continues old new = (rest : List ℕ) × (new ≡ old ++ rest)

-- the beginning of the line of end `number`: its number and its count
abbrev pub line_start : (number : ℕ) → Ending → List ℕ
line_start number e = codes "end " ++ decimal number ++ codes ": " ++ decimal e.count ++ codes ", "

-- the text `new` is `old` and then the line of end `number`, of which only the beginning is stated
abbrev pub WritesLine : (number : ℕ) → Ending → (old new : List ℕ) → Type 0
WritesLine number e old new = Continues (old ++ line_start number e) new

-- there is one line per end, in order. Each begins with the number of its end, counted from 1, and
-- the end's count
pub record AreLinesOf (ends : List Ending) (lines : List (List ℕ)) : Type 0 where
  pub many : length lines ≡ length ends
  pub each : (k : ℕ) (line : List ℕ) → slice_get lines k ≡ Some line
      → (e : Ending) × (slice_get ends k ≡ Some e) × Continues (line_start (k + 1) e) line

-- the text `new` adds one line per end to `old`
abbrev pub WritesLines : List Ending → (old new : List ℕ) → Type 0
WritesLines ends old new =
    (lines : List (List ℕ)) × AreLinesOf ends lines × (new ≡ old ++ flat_map (λ line. line) lines)

-- the text `new` adds the numbers of interleavings and ends to `old`, and then one line per end
abbrev pub WritesSummary : List Ending → Option HowMany → (old new : List ℕ) → Type 0
WritesSummary ends more old new = WritesLines ends (old ++ counts_text ends more) new

-- the text is a summary of the ends, in which only the beginning of each end's line is stated
abbrev pub IsSummary : List Ending → Option HowMany → (text : List ℕ) → Type 0
IsSummary ends more text = WritesSummary ends more [] text
