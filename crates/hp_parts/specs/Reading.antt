-- Reading the lines of parts from serde_json's values.
use Rattle.std.specs.Prelude.{◌≡◌, ◌⊎◌, ℕ, ◌^◌, List, codes, Option, Some, None, nat_lt, if◌then◌else◌, option_and_then}
use Rattle.serde_json.specs.Data.{Data}
use Rattle.serde_json.specs.Find.{get, as_number, as_u64, as_str, as_array}
use Rattle.hp_scenario.specs.Form.{each_in, number_at}
use Rattle.hp_scenario.specs.Scenario.{json_of}
use Rattle.hp_parts.specs.declared.reading.PartLine.{PartLine}
use Rattle.hp_parts.specs.declared.reading.PartLine.TheVariants.{Head, End, Stop, Other}

-- the text at a key
unfoldable pub text_at : List ℕ → Data → Option (List ℕ)
text_at key d = option_and_then as_str (get key d)

-- the number, if it fits 32 bits
abbrev pub narrow : ℕ → Option ℕ
narrow n = if nat_lt n (2 ^ 32) then Some n else None

-- the processor that the value names
abbrev pub processor_of : Data → Option ℕ
processor_of d = option_and_then narrow (option_and_then as_u64 (as_number d))

-- the processors of a schedule, from the key `processors`
unfoldable pub schedule_in : Data → Option (List ℕ)
schedule_in d = option_and_then (each_in processor_of) (option_and_then as_array (get (codes "processors") d))

-- the kind of a line that is neither a head nor an end: either a report that the part was stopped,
-- or something else
abbrev pub IsRest : Data → PartLine → Type 0
IsRest d Stop = (n : ℕ) × (number_at (codes "first") d ≡ Some n)
IsRest d Other = number_at (codes "first") d ≡ None
IsRest d line = ⊥

-- the value has the keys of neither a head nor an end
abbrev pub IsNoEnd : Data → Type 0
IsNoEnd d =
    (number_at (codes "part") d ≡ None)
    × ((number_at (codes "interleavings") d ≡ None) ⊎ (schedule_in d ≡ None))

-- the value has the number of a part, but no number of ends
abbrev pub IsNoHead : Data → Type 0
IsNoHead d =
    ((n : ℕ) × (number_at (codes "part") d ≡ Some n)) × (number_at (codes "ends") d ≡ None)

-- the kind of a line: either a head with its number and its number of ends, or an end with its
-- count and its schedule. Any other line reports that the part was stopped, or is something else
abbrev pub IsLineOf : Data → PartLine → Type 0
IsLineOf d (Head number ends) =
    (number_at (codes "part") d ≡ Some number) × (number_at (codes "ends") d ≡ Some ends)
IsLineOf d (End count schedule) =
    (number_at (codes "part") d ≡ None) × (number_at (codes "interleavings") d ≡ Some count)
    × (schedule_in d ≡ Some schedule.items)
IsLineOf d Stop = IsNoEnd d × IsRest d Stop
IsLineOf d Other = IsNoHead d ⊎ (IsNoEnd d × IsRest d Other)

-- the kind of a line with this JSON value; `Other` without one
abbrev pub IsLineIn : Option Data → PartLine → Type 0
IsLineIn None Other = Unit {0}
IsLineIn None line = ⊥
IsLineIn (Some d) line = IsLineOf d line

-- the kind of a line with this text
abbrev pub IsLine : (text : List ℕ) → PartLine → Type 0
IsLine text line = IsLineIn (json_of text) line
