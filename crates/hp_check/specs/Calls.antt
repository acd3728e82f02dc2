-- The entries of `calls`, and those of them that cannot be read as lines.
use Rattle.std.specs.Prelude.{◌≡◌, ℕ, ◌+◌, Bool, false, List, [], ◌∷◌, ◌++◌, codes, take, Option, Some, None, is_some, slice_get, option_and_then, if◌then◌else◌}
use Rattle.std.specs.Option.{option_or}
use Rattle.serde_json.specs.Data.{Data, Items, no_items, item}
use Rattle.serde_json.specs.Find.{get, as_array, as_str}
use Rattle.hp_scenario.specs.Lines.{line_says}
use Rattle.hp_scenario.specs.declared.fault.ScenarioFault.{ScenarioFault}
use Rattle.hp_scenario.specs.declared.fault.ScenarioFault.TheVariants.{BadLine}
use Rattle.hp_scripts.specs.Bindings.{Bound, bound_after}
use Rattle.hp_scripts.specs.Plain.{plain_in}
use Rattle.hp_check.specs.declared.finding.Finding.{Finding}
use Rattle.hp_check.specs.declared.finding.Finding.TheVariants as finding
use Rattle.hp_check.specs.declared.name_typos.NameTypo.{NameTypo}

-- the items as a list
abbrev pub data_of : Items → List Data
data_of no_items = []
data_of (item d ds) = d ∷ data_of ds

-- the items as a list; without any items, the empty list
abbrev pub items_or_none : Option Items → List Data
items_or_none None = []
items_or_none (Some ds) = data_of ds

-- the items of the list at `calls`; none if there is no list
unfoldable pub entries_in : Data → List Data
entries_in d = items_or_none (option_and_then as_array (get (codes "calls") d))

-- ---- the names of results

-- the text can be read as a line; `bound` has the names that earlier lines gave to their results
abbrev pub is_line_after : Bound → (text : List ℕ) → Bool
is_line_after bound text = is_some (line_says (plain_in bound text).text)

-- the bindings of names after the entry at index `place`, given its text; None if it is no text. A
-- line that names its result adds this name
abbrev pub bound_text : (place : ℕ) → Bound → Option (List ℕ) → Bound
bound_text place bound None = bound
bound_text place bound (Some text) =
    if is_line_after bound text then bound_after bound (plain_in bound text).naming place 0 else bound

-- the bindings after an entry at index `place`
abbrev pub bound_past : (place : ℕ) → Bound → Data → Bound
bound_past place bound d = bound_text place bound (as_str d)

-- the bindings after several entries, of which the first has the index `place`
abbrev pub bound_through : (place : ℕ) → Bound → List Data → Bound
bound_through place bound [] = bound
bound_through place bound (d ∷ ds) = bound_through (place + 1) (bound_past place bound d) ds

-- ---- entries that cannot be read as lines

-- the entry with this number, counted from 1, is this text. It cannot be read as a line, given the
-- names that the lines before it gave to their results
pub record IsBadEntry (entries : List Data) (number : ℕ) (text : List ℕ) : Type 0 where
  pub at : ℕ
  pub entry : Data
  pub counted : number ≡ at + 1
  pub here : slice_get entries at ≡ Some entry
  pub is_text : as_str entry ≡ Some text
  pub no_line : is_line_after (bound_through 0 [] (take at entries)) text ≡ false

-- the finding reports one of these entries, a text that cannot be read as a line
abbrev pub IsBadCall : (entries : List Data) → Finding → Type 0
IsBadCall entries (finding.BadCall number text names) = IsBadEntry entries number text
IsBadCall entries f = ⊥

-- the finding reports this entry, which is at index `place`. It is a text that cannot be read as a
-- line, given these bindings of names
abbrev pub IsBadText : (place : ℕ) → Bound → Data → Finding → Type 0
IsBadText place bound d (finding.BadCall number text names) =
    (number ≡ place + 1) × (as_str d ≡ Some text) × (is_line_after bound text ≡ false)
IsBadText place bound d f = ⊥

-- the finding for text `number` of `calls` was added; what it reports about the names in the text
-- is not specified
abbrev pub AddsBadCall : (number : ℕ) → (text : List ℕ) → (old new : List Finding) → Type 0
AddsBadCall number text old new =
    (names : Option NameTypo) × (new ≡ old ++ finding.BadCall number text names ∷ [])

-- the fault of reading a text at index `place`; None if it can be read as a line, or if there is no
-- text
abbrev pub text_fault : (place : ℕ) → Bound → Option (List ℕ) → Option ScenarioFault
text_fault place bound None = None
text_fault place bound (Some text) = if is_line_after bound text then None else Some (BadLine (place + 1))

-- the fault of reading an entry at index `place`; None if it can be read as a line, or is no text
abbrev pub entry_fault : (place : ℕ) → Bound → Data → Option ScenarioFault
entry_fault place bound d = text_fault place bound (as_str d)

-- the first fault of these entries, the first of which has index `place`. `bound` has the names
-- that the lines before them gave to their results
abbrev pub calls_fault : (place : ℕ) → Bound → List Data → Option ScenarioFault
calls_fault place bound [] = None
calls_fault place bound (d ∷ ds) =
    option_or (entry_fault place bound d) (calls_fault (place + 1) (bound_past place bound d) ds)
