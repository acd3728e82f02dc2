-- The line at a place.
use Rattle.std.proofs.Common.{ℕ, ◌-◌, ◌≤◌, List, Some, length, take, drop, arith}
use Rattle.std.proofs.lemmas.Grind.{common_steps}
use Rattle.memchr.specs.Find.{IsFirstByte, is_byte}
use Rattle.hp_parts.specs.Cuts.{IsLineAt}

-- it ends before the first newline of what follows the place
pub line_stands : (input : List ℕ) (place end : ℕ) → place ≤ length input
    → IsFirstByte (is_byte 10) (take (length input - place) (drop place input)) (Some end)
    → IsLineAt input place (take end (take (length input - place) (drop place input)))
line_stands input place end inside first = grind (arith, common_steps)
