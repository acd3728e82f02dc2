-- Texts that report faults. Their wording is tested.
use Rattle.std.specs.Prelude.{ℕ, ◌≡◌, List, ◌++◌}

-- a text was appended to another
abbrev pub AddsText : (old new : List ℕ) → Type 0
AddsText old new = (text : List ℕ) × (new ≡ old ++ text)
