-- The usual form of a scenario, read token by token, without a tree of values.
use Rattle.std.specs.Prelude.{◌≡◌, ℕ, List, [], ◌∷◌, codes, Some, None, Ok}
use Rattle.json.specs.Token.{Token, key, string, number, begin_array, end_array, end_object}
use Rattle.json.specs.Json.{value}
use Rattle.serde_json.specs.Data.{Data, unsigned, Items, no_items, item, Members, no_members, put}
use Rattle.serde_json.specs.Data as value_of
use Rattle.serde_json.specs.Read.{number_of, of_json, converted}
use Rattle.hp_units.specs.LayoutParts.{LayoutParts, layout_fault}
use Rattle.hp_units.specs.declared.rows.Boot.{Boot}
use Rattle.hp_scenario.specs.Form.{each_in, boot_at, parts_of}
use Rattle.hp_scenario.specs.Scenario.{ScenarioValue, Script, nothing, lines_from, scenario_of}

-- the value `d` is read from the front of the tokens `old`, and `new` are left
abbrev pub Reads : ℕ → Data → List Token → List Token → Type 0
Reads depth d old new = converted of_json (value depth old) ≡ Some (d, new)

-- texts one after another, then the rest
abbrev pub strings_then : List (List ℕ) → List Token → List Token
strings_then [] rest = rest
strings_then (text ∷ texts) rest = string text ∷ strings_then texts rest

-- the tokens up to the end of an array are these texts
abbrev pub AreTexts : List (List ℕ) → List Token → List Token → Type 0
AreTexts texts old new = old ≡ strings_then texts (end_array ∷ new)

-- the texts as values
abbrev pub texts_data : List (List ℕ) → Items
texts_data [] = no_items
texts_data (text ∷ texts) = item (value_of.string text) (texts_data texts)

-- a key and a whole number of 64 bits
abbrev pub IsRow : List ℕ → ℕ → List Token → List Token → Type 0
IsRow k n old new = (s : List ℕ) × (old ≡ key k ∷ number s ∷ new) × (number_of s ≡ Some (unsigned n))

-- two keys, each with a whole number
abbrev pub ArePair : List ℕ → List ℕ → ℕ → ℕ → List Token → List Token → Type 0
ArePair k l n m old new = (mid : List Token) × IsRow k n old mid × IsRow l m mid new

-- keys, each with a whole number
abbrev pub AreRows : List (List ℕ × ℕ) → List Token → List Token → Type 0
AreRows [] old new = old ≡ new
AreRows (row ∷ rows) old new = (mid : List Token) × IsRow row.0 row.1 old mid × AreRows rows mid new

-- the members `before`, and after them those that the rows make
abbrev pub put_rows : List (List ℕ × ℕ) → Members → Members
put_rows [] before = before
put_rows (row ∷ rows) before = put_rows rows (put row.0 (value_of.number (unsigned row.1)) before)

-- the rows of a layout, in their usual order
abbrev pub rows_of : LayoutParts → List (List ℕ × ℕ)
rows_of n =
    (codes "order", n.order) ∷ (codes "pageblocks", n.pageblocks) ∷ (codes "blocks", n.blocks)
    ∷ (codes "cpus", n.cpus) ∷ (codes "batch", n.batch) ∷ (codes "high", n.high) ∷ (codes "owners", n.owners)
    ∷ (codes "pages", n.pages) ∷ (codes "words", n.words) ∷ (codes "history", n.history) ∷ []

-- the parts of a layout, from its numbers and its blocks at boot
abbrev pub parts_from : LayoutParts → List Boot → LayoutParts
parts_from n boot = record n { boot = boot }

-- the tokens up to the end of an array are the words for the blocks' states at boot
abbrev pub AreBoots : List Boot → List Token → List Token → Type 0
AreBoots boot old new =
    (words : List (List ℕ)) × AreTexts words old new × (each_in boot_at (texts_data words) ≡ Some boot)

-- the tokens up to the end of the layout are the key `boot` and the words for these states
abbrev pub EndsWithBoots : List Boot → List Token → List Token → Type 0
EndsWithBoots boot old new =
    (mid : List Token) × (old ≡ key (codes "boot") ∷ begin_array ∷ mid)
    × AreBoots boot mid (end_object ∷ new)

-- a layout without a fault is read from the front of the tokens
abbrev pub IsLayoutAt : LayoutParts → List Token → List Token → Type 0
IsLayoutAt layout old new =
    (d : Data) × Reads 126 d old new × (parts_of d ≡ Some layout) × (layout_fault layout ≡ None)

-- the tokens up to the end of an array are the texts of these lines
abbrev pub AreLines : Script → List Token → List Token → Type 0
AreLines script old new =
    (texts : List (List ℕ)) × AreTexts texts old new × (lines_from 1 nothing texts ≡ Ok script)

-- the tokens are those of a scenario
abbrev pub AreScenario : ScenarioValue → List Token → Type 0
AreScenario scenario old = (d : Data) × Reads 127 d old [] × (scenario_of d ≡ Ok scenario)
