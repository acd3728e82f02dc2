-- The form of a scenario, over the values that `serde_json` reads.
use Rattle.std.specs.Prelude.{ℕ, ◌==◌, List, [], ◌∷◌, codes, Bool, false, Option, Some, None, is_some, unwrap_or, if◌then◌else◌, option_and_then}
use Rattle.std.specs.Str.{bytes_eq}
use Rattle.serde_json.specs.Data.{Data, Items, no_items, item, Members}
use Rattle.serde_json.specs.Events.{members_len}
use Rattle.serde_json.specs.Find.{get, as_number, as_u64, as_str, as_array, as_object}
use Rattle.serde_json.specs.View.{view}
use Rattle.serde_json.specs.declared.value.Value.{Value}
use Rattle.hp_units.specs.LayoutParts.{LayoutParts}
use Rattle.hp_units.specs.declared.rows.Boot.{Boot}
use Rattle.hp_units.specs.declared.rows.Boot.TheVariants.{Offline, Normal, Movable, Absent}

infixl 10 ◌>>=◌
abbrev pub ◌>>=◌ : {A B : Type 0} → Option A → (A → Option B) → Option B
o >>= f = option_and_then f o

-- there are members, and exactly `n` of them
abbrev pub are_keys : ℕ → Option Members → Bool
are_keys n None = false
are_keys n (Some ms) = members_len ms == n

-- an object with `n` keys
unfoldable pub has_keys : ℕ → Data → Bool
has_keys n d = are_keys n (as_object d)

-- the number at a key, if it is a whole number of 64 bits
unfoldable pub number_at : List ℕ → Data → Option ℕ
number_at key d = option_and_then as_u64 (option_and_then as_number (get key d))

-- the numbers at two keys, if there are both
unfoldable pub pair_at : List ℕ → List ℕ → Data → Option (ℕ × ℕ)
pair_at first second d = do
  one ← number_at first d
  other ← number_at second d
  Some (one, other)

-- a block's state at boot, from its word
unfoldable pub boot_of : List ℕ → Option Boot
boot_of word =
    if bytes_eq word (codes "offline") then Some Offline
    else (if bytes_eq word (codes "normal") then Some Normal
    else (if bytes_eq word (codes "movable") then Some Movable
    else (if bytes_eq word (codes "absent") then Some Absent
    else None)))

-- the results of `f` for all items, if it has one for each
unfoldable pub each_in : {B : Type 0} → (Data → Option B) → Items → Option (List B)
each_in f no_items = Some []
each_in f (item d ds) = do
  x ← f d
  xs ← each_in f ds
  Some (x ∷ xs)

-- a block's state at boot, from the text in a value
abbrev pub boot_at : Data → Option Boot
boot_at d = option_and_then boot_of (as_str d)

-- the value is a text; and this text, or an empty one for any other value
abbrev pub is_text : Value → Bool
is_text v = is_some (as_str (view v))

abbrev pub text_of : Value → List ℕ
text_of v = unwrap_or (as_str (view v)) []

-- the texts at a key, and the blocks' states at boot
unfoldable pub texts_at : List ℕ → Data → Option (List (List ℕ))
texts_at key d = option_and_then (each_in as_str) (option_and_then as_array (get key d))

unfoldable pub boots_at : List ℕ → Data → Option (List Boot)
boots_at key d = option_and_then (each_in boot_at) (option_and_then as_array (get key d))

-- the layout's parts, with `boot` given
unfoldable pub parts_with : List Boot → Data → Option LayoutParts
parts_with boot d = do
  order ← number_at (codes "order") d
  pageblocks ← number_at (codes "pageblocks") d
  blocks ← number_at (codes "blocks") d
  cpus ← number_at (codes "cpus") d
  batch ← number_at (codes "batch") d
  high ← number_at (codes "high") d
  owners ← number_at (codes "owners") d
  pages ← number_at (codes "pages") d
  words ← number_at (codes "words") d
  history ← number_at (codes "history") d
  Some (record {
    order = order;
    pageblocks = pageblocks;
    blocks = blocks;
    cpus = cpus;
    batch = batch;
    high = high;
    owners = owners;
    pages = pages;
    words = words;
    history = history;
    boot = boot;
  })

-- the parts of a layout, from an object with exactly the eleven keys of a layout
unfoldable pub parts_of : Data → Option LayoutParts
parts_of d = if has_keys 11 d then (boots_at (codes "boot") d >>= λ boot. parts_with boot d) else None

-- the parts of the layout, and the texts of the lines
pub record Form : Type 0 where
  pub parts : LayoutParts
  pub calls : List (List ℕ)

-- the form of a layout's parts and of texts, if there are both
abbrev pub form_with : Option LayoutParts → Option (List (List ℕ)) → Option Form
form_with parts calls = do
  p ← parts
  c ← calls
  Some (record { parts = p; calls = c })

-- the form of a scenario, from an object with exactly the keys `layout` and `calls`
unfoldable pub form_of : Data → Option Form
form_of d = if has_keys 2 d then (do
  layout ← get (codes "layout") d
  parts ← parts_of layout
  calls ← texts_at (codes "calls") d
  Some (record { parts = parts; calls = calls })) else None
