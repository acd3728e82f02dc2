-- The keys and the values that an object of a scenario must have.
use Rattle.std.specs.Prelude.{◌==◌, ◌&&◌, Bool, true, length, Option, Some, None, is_some, option_and_then}
use Rattle.std.specs.List.{list_all}
use Rattle.serde_json.specs.Data.{Data, Members}
use Rattle.serde_json.specs.Events.{members_len}
use Rattle.serde_json.specs.Find.{get, as_number, as_u64, as_str, as_array}
use Rattle.hp_scenario.specs.Form.{boot_at, each_in, parts_of}
use Rattle.hp_check.specs.Findings.{key_name, keys_of}
use Rattle.hp_check.specs.declared.finding.Key.{Key}
use Rattle.hp_check.specs.declared.finding.ScenarioObject.{ScenarioObject}

-- the object has this key
abbrev pub is_there : Data → Key → Bool
is_there d k = is_some (get (key_name k) d)

-- the object has exactly its keys: as many members as there are keys, and each key is among them
abbrev pub has_its_keys : ScenarioObject → Data → Members → Bool
has_its_keys place d ms = (members_len ms == length (keys_of place)) && list_all (is_there d) (keys_of place)

-- the test holds of a value. Without a value it passes, because a missing key is a fault of its own
abbrev pub if_there : (Data → Bool) → Option Data → Bool
if_there f None = true
if_there f (Some d) = f d

-- the value is an unsigned integer that fits in 64 bits
abbrev pub is_number : Data → Bool
is_number d = is_some (option_and_then as_u64 (as_number d))

-- the value has the parts of a layout
abbrev pub are_parts : Data → Bool
are_parts d = is_some (parts_of d)

abbrev pub are_boots : Data → Bool
are_boots d = is_some (option_and_then (each_in boot_at) (as_array d))

-- the value is a list of texts
abbrev pub are_texts : Data → Bool
are_texts d = is_some (option_and_then (each_in as_str) (as_array d))

-- the value at a key is missing, or is an unsigned integer that fits in 64 bits
abbrev pub is_number_at : Data → Key → Bool
is_number_at d k = if_there is_number (get (key_name k) d)
