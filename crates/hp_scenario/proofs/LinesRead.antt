-- What can be said is read from its words, and none of them has a space.
use Rattle.std.proofs.Common.{◌≡◌, ℕ, ◌^◌, ◌<◌, true, List, [], ◌∷◌, Some, refl, arith, lit≤}
use Rattle.std.specs.Fmt.{decimal}
use Rattle.hp_units.specs.declared.plans.Item.{Item}
use Rattle.hp_units.specs.declared.rows.Wish.{Wish}
use Rattle.hp_units.specs.declared.rows.Zone.{Zone}
use Rattle.hp_scenario.specs.Lines.{Request, Said, words_say, request_of, event_of, zone_of, wish_of, item_of, items_of, text_of, event_of_number, request_of_two, request_of_three, request_of_four, begin_of, plan_of, echo_of, cat_of, seal_of}
use Rattle.hp_scenario.specs.Spelling.{zone_word, wish_word, item_words, request_words, FitItems, FitsRequest, IsText, CanBeSaid, is_spaceless}
use Rattle.hp_units.specs.NumberWords.{number_of}
use Rattle.hp_units.proofs.NumbersSpelled.{spelled_is}
use Rattle.hp_scenario.proofs.WordsSpelled.{AreSpaceless, decimal_spaceless, name_spaceless}

-- a number's word is read as the number
read32 : (n : ℕ) → n < 2 ^ 32 → number_of 32 (decimal n) ≡ Some n
read32 n fits = spelled_is 32 (decimal n) n (lit≤ tt) (refl, fits)

read64 : (n : ℕ) → n < 2 ^ 64 → number_of 64 (decimal n) ≡ Some n
read64 n fits = spelled_is 64 (decimal n) n (lit≤ tt) (refl, fits)

read_text : (text : List ℕ) → IsText text → text_of text ≡ Some text
read_text text h = grind arith

read_zone : (z : Zone) → zone_of (zone_word z) ≡ Some z
unfolding zone_of
read_zone z = grind arith

read_wish : (w : Wish) → wish_of (wish_word w) ≡ Some w
unfolding wish_of
read_wish w = grind arith

read_item : (item : Item) → item.block < 2 ^ 32
    → item_of (wish_word item.wish) (decimal item.block) ≡ Some item
unfolding item_of
read_item item fits = rw (read_wish item.wish, read32 item.block fits) refl

read_items : (items : List Item) → FitItems items → items_of (item_words items) ≡ Some items
unfolding items_of
read_items [] fit = refl
read_items (item ∷ items) fit = rw (read_item item fit.0, read_items items fit.1) refl

pub read_request : (r : Request) → FitsRequest r → request_of (request_words r) ≡ Some r
unfolding request_of event_of event_of_number request_of_two request_of_three request_of_four begin_of
    plan_of echo_of cat_of seal_of
read_request r fits = grind (arith, read32, read_zone, read_items, read64, read_text)

pub read_said : (said : Said) → CanBeSaid said
    → words_say (decimal said.cpu ∷ request_words said.request) ≡ Some said
unfolding words_say
read_said said fits = rw (read32 said.cpu fits.0, read_request said.request fits.1) refl

-- ---- no word has a space

small : (n : ℕ) → n < 2 ^ 32 → is_spaceless (decimal n) ≡ true
small n fits = decimal_spaceless n (omega arith)

spaceless_wish : (w : Wish) → is_spaceless (wish_word w) ≡ true
spaceless_wish w = grind arith

spaceless_zone : (z : Zone) → is_spaceless (zone_word z) ≡ true
spaceless_zone z = grind arith

spaceless_items : (items : List Item) → FitItems items → AreSpaceless (item_words items)
spaceless_items [] fit = tt
spaceless_items (item ∷ items) fit = grind (arith, spaceless_wish, small, spaceless_items items fit.1)

pub spaceless_request : (r : Request) → FitsRequest r → AreSpaceless (request_words r)
spaceless_request r fits = grind (arith, spaceless_zone, spaceless_items, decimal_spaceless, name_spaceless)
