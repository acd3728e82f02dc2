-- What `serde_json` tells of a text, in the words of a scenario.
use Rattle.std.proofs.Common.{◌≡◌, ℕ, Bool, true, cond, eqb, List, Option, Some, None, Ok, Err, refl, sym, ap, ◌∙◌, arith}
use Rattle.std.specs.Str.{IsUtf8}
use Rattle.std.proofs.lemmas.Str.{is_utf8-from_IsUtf8, IsUtf8-from_is_utf8}
use Rattle.serde_json.specs.Data.{Data, Members}
use Rattle.serde_json.specs.Events.{members_len}
use Rattle.serde_json.specs.Find.{as_object}
use Rattle.serde_json.specs.Read.{read}
use Rattle.hp_scenario.specs.declared.fault.ScenarioFault.TheVariants.{NotJson}
use Rattle.hp_scenario.specs.Form.{are_keys, has_keys}
use Rattle.hp_scenario.specs.Gives.{or_fault}
use Rattle.hp_scenario.specs.Scenario.{json_of}

pub keys_are : (d : Data) (ms : Members) (n count : ℕ) → Some ms ≡ as_object d → members_len ms ≡ n
    → eqb n count ≡ has_keys count d
unfolding has_keys
keys_are d ms n count e len = ap (λ (k : ℕ). eqb k count) (sym len) ∙ ap (are_keys count) e

pub json_read : (bytes : List ℕ) (d : Data) → IsUtf8 bytes → read bytes ≡ Some d
    → or_fault NotJson (json_of bytes) ≡ Ok d
unfolding json_of
json_read bytes d text e = rw (is_utf8-from_IsUtf8 bytes text, e) refl

none_if : (b : Bool) (r : Option Data) → (b ≡ true → r ≡ None) → cond b r None ≡ None
none_if b r h = grind arith

pub json_refused : (bytes : List ℕ) → (IsUtf8 bytes → read bytes ≡ None)
    → or_fault NotJson (json_of bytes) ≡ Err NotJson
unfolding json_of
json_refused bytes h = grind (arith, none_if, IsUtf8-from_is_utf8)
