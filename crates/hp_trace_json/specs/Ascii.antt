-- Lines of plain characters.
use Rattle.std.specs.Prelude.{ℕ, ◌≡◌, ◌≢◌, ◌<◌, ◌≤◌, List, [], ◌∷◌, ◌++◌}
use Rattle.std.specs.List.{AllByRecursion}

-- a printable character of ASCII other than `<`
abbrev pub IsPlain : ℕ → Type 0
IsPlain byte = (32 ≤ byte) × (byte < 127) × (byte ≢ 60)

-- plain characters are added
abbrev pub AddsPlain : (old new : List ℕ) → Type 0
AddsPlain old new = (text : List ℕ) × (new ≡ old ++ text) × AllByRecursion IsPlain text

-- a line of plain characters is added
abbrev pub AddsLine : (old new : List ℕ) → Type 0
AddsLine old new = (text : List ℕ) × (new ≡ old ++ text ++ 10 ∷ []) × AllByRecursion IsPlain text
