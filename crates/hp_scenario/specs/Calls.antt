-- The lines of a scenario in its usual form, taken one after another.
use Rattle.std.specs.Prelude.{◌≡◌, ℕ, List, [], ◌∷◌, codes, Ok, Some, IsUtf8}
use Rattle.json.specs.Token.{Token, key, string, begin_object, begin_array, end_array, end_object}
use Rattle.json.specs.Lex.{tokens}
use Rattle.hp_units.specs.LayoutParts.{LayoutParts}
use Rattle.hp_scenario.specs.Names.{line_in}
use Rattle.hp_scenario.specs.Scenario.{lines_from}
use Rattle.hp_scenario.specs.Usual.{IsLayoutAt, strings_then}
use Rattle.hp_scenario.specs.declared.calls.Calls.{Calls}
use Rattle.hp_scenario.specs.declared.calls.Next.{Next}
use Rattle.hp_scenario.specs.declared.calls.Next.TheVariants.{Another, End, Unsure}
use Rattle.hp_scenario.specs.declared.lines.Line.{Line}

-- `old` begins with the tokens of the layout and the beginning of `calls`; `new` are the tokens after
-- these, from the first line on
abbrev pub IsFront : LayoutParts → List Token → List Token → Type 0
IsFront layout old new =
    (b : List Token) × (old ≡ begin_object ∷ key (codes "layout") ∷ b)
    × IsLayoutAt layout b (key (codes "calls") ∷ begin_array ∷ new)

-- the layout of the scenario in `bytes` was read, and no line was taken yet
abbrev pub IsOpened : List ℕ → Calls → Type 0
IsOpened bytes calls =
    IsUtf8 bytes × IsFront calls.layout (tokens bytes) calls.reader × (calls.names.keys ≡ [])

-- one line was taken: the next text, read with the names so far
abbrev pub Passes : Calls → Line → Calls → Type 0
Passes old line new =
    (text : List ℕ) × (old.reader ≡ string text ∷ new.reader)
    × (line_in old.names.keys text ≡ Some (record { names = new.names.keys; line = line }))
    × (new.layout ≡ old.layout)

-- no line was left, only the end of the scenario; the names and the layout stay
abbrev pub Ends : Calls → Calls → Type 0
Ends old new =
    (old.reader ≡ end_array ∷ end_object ∷ []) × (new.names.keys ≡ old.names.keys) × (new.layout ≡ old.layout)

-- what came next: a line, or the end; Unsure claims nothing
abbrev pub Goes : Calls → Next → Calls → Type 0
Goes old (Another line) new = Passes old line new
Goes old End new = Ends old new
Goes old Unsure new = Unit {0}

-- these lines were taken, one after another
abbrev pub HasPassed : Calls → List Line → Calls → Type 0
HasPassed old lines new =
    (texts : List (List ℕ)) × (old.reader ≡ strings_then texts new.reader)
    × (lines_from 1 (record { names = old.names.keys; lines = [] }) texts
    ≡ Ok (record { names = new.names.keys; lines = lines }))
    × (new.layout ≡ old.layout)

-- these lines were taken, and then the scenario ended
abbrev pub AreAll : Calls → List Line → Calls → Type 0
AreAll old lines new = (last : Calls) × HasPassed old lines last × Ends last new
