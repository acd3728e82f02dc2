-- What reading everything means, and when it fails.
use Rattle.std.specs.Prelude.{ℕ, ◌<◌, ◌≤◌, List, length, Option, IfSome}
use Rattle.std.specs.Io.KnownBytes.{IsAtEnd}
use Rattle.hp_streams.specs.declared.reading.ReadFault.{ReadFault}
use Rattle.hp_streams.specs.declared.reading.ReadFault.TheVariants.{ReadFailed, TooLong, OutOfMemory}

abbrev pub limit : ℕ
limit = 16777216

-- a reader gave all that it had, and that was at most the limit
pub record ReadsAll (old new : Option (List ℕ)) : Type 0 where
  pub within : IfSome old (λ input. length input ≤ limit)
  pub end : IsAtEnd new

-- when each fault occurs; `read` states that a call of the reader failed
abbrev pub IsReadFault : (known : Option (List ℕ)) (read : Type 0) → ReadFault → Type 0
IsReadFault known read ReadFailed = read
IsReadFault known read TooLong = IfSome known (λ input. limit < length input)
IsReadFault known read OutOfMemory = Unit {0}
