-- What `serde_json` tells of a text.
use Rattle.std.proofs.Common.{arith, ◌≡◌, ℕ, List, Some, None}
use Rattle.std.specs.Str.{IsUtf8}
use Rattle.serde_json.specs.Data.{Data}
use Rattle.serde_json.specs.Read.{read}
use Rattle.hp_scenario.proofs.Json.{json_read, json_refused}
use Rattle.hp_scenario.specs.Scenario.{json_of}

pub value_read : (bytes : List ℕ) (d : Data) → IsUtf8 bytes → read bytes ≡ Some d → json_of bytes ≡ Some d
value_read bytes d text e = grind (arith, (json_read bytes d text e))

pub value_refused : (bytes : List ℕ) → (IsUtf8 bytes → read bytes ≡ None) → json_of bytes ≡ None
value_refused bytes h = grind (arith, (json_refused bytes h))
