-- Values read from tokens one by one are the values of the whole text.
use Rattle.std.proofs.Common.{◌≡◌, ℕ, ◌-◌, ◌<◌, ◌≤◌, List, [], ◌∷◌, length, Option, Some, option_map, option_and_then, refl, ap, ◌∙◌, arith}
use Rattle.json.specs.Token.{Token}
use Rattle.json.specs.Json as json
use Rattle.json.specs.Json.{parse_map, items, members, value, if_last}
use Rattle.json.specs.Lex.{tokens}
use Rattle.json.proofs.Grammar.{items_end, items_more, members_end, members_more, value_is, value-begin_array, value-begin_object, skip_value-shorter, left}
use Rattle.serde_json.specs.Data.{unsigned, number, Data, array, object, Items, item, Members, no_members, put}
use Rattle.serde_json.specs.Data as value_of
use Rattle.serde_json.specs.Read.{of_json, of_items, of_members, converted, read}
use Rattle.hp_scenario.specs.Usual.{Reads, strings_then, AreTexts, texts_data, AreRows, put_rows}

-- ---- what was converted

found : {A B : Type 0} (a : A) (r s : List Token) (x : Option B) (b : B)
    → option_map {U = B × List Token} (λ y. (y, r)) x ≡ Some (b, s) → (r ≡ s) × (x ≡ Some b)
found a r s x b e = grind arith

pub converted_some : {A B : Type 0} (f : A → Option B) (o : Option (A × List Token)) (b : B) (r : List Token)
    → converted f o ≡ Some (b, r) → (a : A) × (o ≡ Some (a, r)) × (f a ≡ Some b)
converted_some f o b r e = grind (arith, found)

twice : {A B : Type 0} (g : A → B) (r : List Token) (x : Option A)
    → option_map (λ b. (b, r)) (option_map g x) ≡ parse_map g (option_map (λ a. (a, r)) x)
twice g r x = grind arith

with_array : (o : Option (json.Items × List Token))
    → converted of_json (parse_map json.array o) ≡ parse_map array (converted of_items o)
with_array o = grind (arith, twice)

with_object : (o : Option (json.Members × List Token))
    → converted of_json (parse_map json.object o)
    ≡ parse_map object (converted (λ ms. of_members ms no_members) o)
with_object o = grind (arith, twice)

with_item : (j : json.Json) (d : Data) → of_json j ≡ Some d → (o : Option (json.Items × List Token))
    → converted of_items (parse_map (json.item j) o) ≡ parse_map (item d) (converted of_items o)
with_item j d e o = grind (arith, twice)

with_member : (k : List ℕ) (j : json.Json) (d : Data) (old : Members) → of_json j ≡ Some d
    → (o : Option (json.Members × List Token))
    → converted (λ ms. of_members ms old) (parse_map (json.member k j) o)
    ≡ converted (λ ms. of_members ms (put k d old)) o
with_member k j d old e o = grind arith

-- ---- values

-- a value takes a token
pub shorter : (depth : ℕ) (d : Data) (old new : List Token) → Reads depth d old new → length new < length old
shorter depth d old new e =
    skip_value-shorter depth old new (ap left (converted_some of_json (value depth old) d new e).1)

-- ---- arrays

-- the items of an array are read from the front of the tokens
abbrev pub ReadsItems : ℕ → Items → List Token → List Token → Type 0
ReadsItems depth ds old new =
    (n : ℕ) → length old ≤ n → converted of_items (items (value depth) n old) ≡ Some (ds, new)

pub texts_read : (depth : ℕ) (texts : List (List ℕ)) (new : List Token)
    → ReadsItems depth (texts_data texts) (strings_then texts (Token.end_array ∷ new)) new
texts_read depth [] new n enough = rw (items_end (value depth) n (Token.end_array ∷ new) new enough refl)
texts_read depth (text ∷ texts) new n enough =
    let rest = strings_then texts (Token.end_array ∷ new) in
    rw (items_more (value depth) n (Token.string text ∷ rest) rest (json.string text) (omega arith) refl
    (value_is depth (Token.string text ∷ rest))) (rw (with_item (json.string text) (value_of.string text) refl
    (items (value depth) (n - 1) rest)) (rw (texts_read depth texts new (n - 1) (omega arith))))

pub reads_array : (depth : ℕ) (ds : Items) (old new : List Token) → 0 < depth
    → ReadsItems (depth - 1) ds old new → Reads depth (array ds) (Token.begin_array ∷ old) new
reads_array depth ds old new some h = grind (arith, value-begin_array, with_array)

pub reads_texts : (depth : ℕ) (texts : List (List ℕ)) (old new : List Token) → 0 < depth
    → AreTexts texts old new → Reads depth (array (texts_data texts)) (Token.begin_array ∷ old) new
reads_texts depth texts old new some e =
    rw e (reads_array _ _ _ _ some (texts_read (depth - 1) texts new))

-- ---- objects

-- what the members that are left add to those before them
abbrev pub Adds : ℕ → (Members → Members) → List Token → List Token → Type 0
Adds depth add old new = (n : ℕ) (before : Members) → length old ≤ n
    → converted (λ ms. of_members ms before) (members (value depth) n old) ≡ Some (add before, new)

pub adds_none : (depth : ℕ) (new : List Token) → Adds depth (λ ms. ms) (Token.end_object ∷ new) new
adds_none depth new n before enough =
    rw (members_end (value depth) n (Token.end_object ∷ new) new enough refl)

pub adds_one : (depth : ℕ) (k : List ℕ) (d : Data) (add : Members → Members) (old mid new : List Token)
    → Reads depth d old mid → Adds depth add mid new
    → Adds depth (λ ms. add (put k d ms)) (Token.key k ∷ old) new
adds_one depth k d add old mid new e more n before enough =
    let j = converted_some of_json (value depth old) d mid e in
    let less = shorter depth d old mid e in
    rw (members_more (value depth) n k (Token.key k ∷ old) old mid j.0 (omega arith) refl j.1) (rw
    (with_member k j.0 d before j.2 (members (value depth) (n - 1) mid)) (rw (more (n - 1) (put k d before)
    (omega arith))))

pub reads_object : (depth : ℕ) (add : Members → Members) (old new : List Token) → 0 < depth
    → Adds (depth - 1) add old new → Reads depth (object (add no_members)) (Token.begin_object ∷ old) new
reads_object depth add old new some h = grind (arith, value-begin_object, with_object)

pub adds_rows : (depth : ℕ) (rows : List (List ℕ × ℕ)) (add : Members → Members) (old mid new : List Token)
    → AreRows rows old mid → Adds depth add mid new → Adds depth (λ ms. add (put_rows rows ms)) old new
adds_rows depth [] add old mid new e more = rw e more
adds_rows depth (row ∷ rows) add old mid new h more =
    let next = h.0 in
    let s = h.1.0 in
    let one = ap (converted of_json) (value_is depth (Token.number s ∷ next)) ∙ rw h.1.2 refl in
    let whole = adds_one depth row.0 (number (unsigned row.1)) (λ ms. add (put_rows rows ms))
    (Token.number s ∷ next) next new one (adds_rows depth rows add next mid new h.2 more) in
    rw h.1.1 whole

-- ---- the whole text

abbrev whole : Option (json.Json × List Token) → Option Data
whole o = option_and_then of_json (option_and_then (λ p. if_last p.0 p.1) o)

pub reads_all : (text : List ℕ) (d : Data) → Reads 127 d (tokens text) [] → read text ≡ Some d
reads_all text d e = grind (arith, converted_some of_json (value 127 (tokens text)) d [] e)
