-- The head of a part, as it is written in JSON, and as it is read from serde_json's values.
use Rattle.std.specs.Prelude.{◌≡◌, ℕ, ◌≤◌, List, ◌++◌, codes, Option, Some, None, nat_le, ◌&&◌, Bool, if◌then◌else◌, option_and_then}
use Rattle.std.specs.Fmt.{decimal}
use Rattle.serde_json.specs.Data.{Data}
use Rattle.hp_text.specs.Escapes.{escaped_text}
use Rattle.hp_text.specs.declared.escapes.Brackets.TheVariants.{Kept}
use Rattle.hp_schedules.specs.Parts.{PartValue}
use Rattle.hp_scenario.specs.Form.{◌>>=◌, number_at}
use Rattle.hp_scenario.specs.Scenario.{json_of}
use Rattle.hp_schedules.specs.PartNumbers.{part_by}
use Rattle.hp_parts.specs.Reading.{narrow, text_at}

-- the search of a part: the number of parts, the number of first calls that decide a part, the number
-- of lines in the setup, and the scenario's text
pub record SearchValue : Type 0 where
  pub of : ℕ
  pub calls : ℕ
  pub setup : ℕ
  pub scenario : List ℕ

-- the search has a part with this number
abbrev pub IsNumber : SearchValue → (number : ℕ) → Type 0
IsNumber s number = (1 ≤ number) × (number ≤ s.of)

-- the part with this number
abbrev pub part_in : SearchValue → (number : ℕ) → PartValue
part_in s number = part_by (record { number = number; of = s.of }) s.calls

-- ---- heads, as they are written

-- the number of a part, of how many parts, and how many first calls decide a part
abbrev pub head_numbers : (number of calls : ℕ) → List ℕ
head_numbers number of calls =
    codes "{\"part\": " ++ decimal number ++ codes ", \"of\": " ++ decimal of ++ codes ", \"calls\": "
    ++ decimal calls

-- how many lines are the setup, how many ends the part has, and the key of the scenario
abbrev pub head_counts : (setup ends : ℕ) → List ℕ
head_counts setup ends =
    codes ", \"setup\": " ++ decimal setup ++ codes ", \"ends\": " ++ decimal ends
    ++ codes ", \"scenario\": \""

-- the head of part `number`, counted from 1, with `ends` ends
abbrev pub head_line : SearchValue → (number ends : ℕ) → List ℕ
head_line s number ends =
    head_numbers number s.of s.calls ++ head_counts s.setup ends ++ escaped_text Kept s.scenario
    ++ codes "\"}"

-- ---- heads, as they are read

-- the contents of a head
pub record HeadValue : Type 0 where
  pub number : ℕ
  pub ends : ℕ
  pub search : SearchValue

-- a search of `of` parts has a part with this number; it has at most 1,000,000 parts
abbrev pub is_number : (number of : ℕ) → Bool
is_number number of = nat_le 1 number && (nat_le number of && nat_le of 1000000)

-- the head with these numbers, if there is such a part
abbrev pub head_with : (number of calls setup ends : ℕ) → (scenario : List ℕ) → Option HeadValue
head_with number of calls setup ends scenario =
    if is_number number of
    then Some (record {
      number = number;
      ends = ends;
      search = record { of = of; calls = calls; setup = setup; scenario = scenario };
    })
    else None

-- the head in a JSON value, if it has one
unfoldable pub head_from : Data → Option HeadValue
head_from d = do
  number ← number_at (codes "part") d
  of ← number_at (codes "of") d
  wide ← number_at (codes "calls") d
  calls ← narrow wide
  setup ← number_at (codes "setup") d
  ends ← number_at (codes "ends") d
  scenario ← text_at (codes "scenario") d
  head_with number of calls setup ends scenario

-- the text is this head: its JSON has the head, and the text is byte for byte as the search writes it
abbrev pub IsHead : (text : List ℕ) → HeadValue → Type 0
IsHead text h =
    (option_and_then head_from (json_of text) ≡ Some h) × (text ≡ head_line h.search h.number h.ends)
