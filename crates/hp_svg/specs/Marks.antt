-- The colours of characters.
use Rattle.std.specs.Prelude.{◌&&◌, ◌==◌, not, Bool, true, ℕ, List, [], ◌∷◌, codes, if◌then◌else◌}
use Rattle.std.specs.List.{list_any}
use Rattle.std.specs.Str.{bytes_eq}

-- the colour of a character in a table; white if it has no entry
abbrev pub fill_in : List (ℕ × List ℕ) → (mark : ℕ) → List ℕ
fill_in [] mark = codes "#ffffff"
fill_in (entry ∷ fills) mark = if entry.0 == mark then entry.1 else fill_in fills mark

-- no two of these texts are equal
abbrev pub all_differ : List (List ℕ) → Bool
all_differ [] = true
all_differ (text ∷ texts) = not (list_any (bytes_eq text) texts) && all_differ texts
