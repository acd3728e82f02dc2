-- The tests of the keys and the values, and the form of a scenario.
use Rattle.std.proofs.Common.{arith, ◌≡◌, ℕ, String, Bool, true, false, cond, ◌&&◌, ◌==◌, List, [], ◌∷◌, codes, length, Option, Some, None, is_some, option_and_then, refl, ap}
use Rattle.std.specs.List.{list_all}
use Rattle.std.proofs.lemmas.List.Folds.{list_all-append}
use Rattle.std.specs.declared.alloc.Global.{Global}
use Rattle.serde_json.proofs.Views.{members_len-members_view}
use Rattle.serde_json.specs.Data.{Data, Members}
use Rattle.serde_json.specs.Events.{members_len}
use Rattle.serde_json.specs.Find.{get, as_array, as_object}
use Rattle.serde_json.specs.View.{view, items_view, members_view}
use Rattle.serde_json.specs.declared.value.Value.{Value}
use Rattle.hp_units.specs.LayoutParts.{LayoutParts}
use Rattle.hp_units.specs.declared.rows.Boot.{Boot}
use Rattle.hp_scenario.specs.Form.{are_keys, boot_at, boots_at, each_in, form_of, has_keys, number_at, parts_of, parts_with, texts_at}
use Rattle.hp_check.specs.Findings.{key_name, keys_of, number_keys}
use Rattle.hp_check.specs.Shape.{are_boots, are_parts, are_texts, has_its_keys, if_there, is_number_at, is_there}
use Rattle.hp_check.specs.declared.finding.Key.{Key}
use Rattle.hp_check.specs.declared.finding.Key.TheVariants as key
use Rattle.hp_check.specs.declared.finding.ScenarioObject.{ScenarioObject}
use Rattle.hp_check.specs.declared.finding.ScenarioObject.TheVariants as place

-- ---- lists

-- something is made of each item, if it is of the first and of the others
pub each_seen : {B : Type 0} (f : Data → Option B) (vs : List Value)
    → list_all (λ v. is_some (f (view v))) vs ≡ is_some (each_in f (items_view vs))
unfolding each_in
each_seen f [] = refl
each_seen f (v ∷ vs) = grind (arith, (each_seen f vs))

-- ---- numbers

numbers_are : (d : Data) (ks : List Key)
    → (list_all (is_there d) ks && list_all (is_number_at d) ks)
    ≡ list_all (λ k. is_some (number_at (key_name k) d)) ks
unfolding number_at
numbers_are d [] = refl
numbers_are d (k ∷ ks) = grind (arith, (numbers_are d ks))

-- the parts are there just where the numbers are
parts_are_numbers : (boot : List Boot) (d : Data)
    → is_some (parts_with boot d) ≡ list_all (λ k. is_some (number_at (key_name k) d)) number_keys
unfolding parts_with
parts_are_numbers boot d = grind arith

-- ---- the keys of an object

pub counted_keys : (p : ScenarioObject) (d : Data) (entries : List (String Global × Value)) (count : ℕ)
    → count ≡ length entries
    → ((count == length (keys_of p)) && list_all (is_there d) (keys_of p))
    ≡ has_its_keys p d (members_view entries)
counted_keys p d entries count is = rw (is, ← members_len-members_view entries)

-- where the count or a key is wrong, whatever other keys there are
pub wrong_keys : (count fine there : Bool) → false ≡ (count && there)
    → ((count && fine) && there) ≡ (count && there)
wrong_keys count fine there h = grind arith

-- ---- the layout

-- the tests of a layout's keys and values, in this order
layout_tests : (count there numbers all : Bool) (boot : Option Data) (make : List Boot → Option LayoutParts)
    → (there && numbers) ≡ all → ((b : List Boot) → is_some (make b) ≡ all)
    → (((count && (there && (is_some boot && true))) && numbers) && if_there are_boots boot)
    ≡ is_some (cond count (option_and_then make (option_and_then (each_in boot_at)
    (option_and_then as_array boot))) None)
layout_tests count there numbers all boot make e made = grind arith

if_some : {A : Type 0} (b : Bool) (o : Option A) → is_some (cond b o None) ≡ (b && is_some o)
if_some b o = grind arith

keys_there : (d : Data)
    → list_all (is_there d) (keys_of place.Layout)
    ≡ (list_all (is_there d) number_keys && (is_there d key.Boot && true))
keys_there d = list_all-append (is_there d) number_keys (key.Boot ∷ [])

right_count : (d : Data) (ms : Members) (n : ℕ) → as_object d ≡ Some ms → has_keys n d ≡ (members_len ms == n)
unfolding has_keys
right_count d ms n e = ap (are_keys n) e

pub layout_form : (d : Data) (ms : Members) → as_object d ≡ Some ms
    → ((has_its_keys place.Layout d ms && list_all (is_number_at d) number_keys)
    && if_there are_boots (get (codes "boot") d))
    ≡ is_some (parts_of d)
unfolding parts_of boots_at
layout_form d ms e =
    rw (keys_there, right_count d ms 11 e)
    (layout_tests (members_len ms == 11) _ _ _ (get (codes "boot") d) (λ boot. parts_with boot d)
    (numbers_are d number_keys) (λ boot. parts_are_numbers boot d))

pub layout_formless : (d : Data) → as_object d ≡ None → is_some (parts_of d) ≡ false
unfolding parts_of has_keys
layout_formless d e = rw e refl

-- ---- the whole

pub whole_form : (d : Data) (ms : Members) → as_object d ≡ Some ms
    → ((has_its_keys place.Whole d ms && if_there are_parts (get (codes "layout") d))
    && if_there are_texts (get (codes "calls") d))
    ≡ is_some (form_of d)
unfolding form_of texts_at
whole_form d ms e = grind (arith, right_count, if_some)

pub whole_formless : (d : Data) → as_object d ≡ None → is_some (form_of d) ≡ false
unfolding form_of has_keys
whole_formless d e = rw e refl
