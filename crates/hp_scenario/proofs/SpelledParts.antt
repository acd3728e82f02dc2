-- The parts of a line: what each says where it is read as it is spelled.
use Rattle.std.proofs.Common.{◌≡◌, ℕ, ◌^◌, ◌<◌, true, List, Option, Some, subst, arith, lit≤, option_map, option_and_then}
use Rattle.std.specs.Fmt.{decimal}
use Rattle.std.proofs.lemmas.Option.{same_Some}
use Rattle.hp_scenario.specs.Lines.{Request, named, named_if, text_of}
use Rattle.hp_scenario.specs.Spelling.{request_words, FitsRequest, IsText, is_spaceless}
use Rattle.hp_units.specs.NumberWords.{number_of}
use Rattle.hp_scenario.specs.Words.{is_name}
use Rattle.hp_scenario.specs.declared.requests.Access.{Access}
use Rattle.hp_units.proofs.NumbersSpelled.{is_spelled}

-- the words are those of the request, and it can be said (but for spaces in its texts)
abbrev pub IsSpelled : List (List ℕ) → Request → Type 0
IsSpelled words r = (words ≡ request_words r) × FitsRequest r

-- where steps that may fail came through
pub mapped : {A B : Type 0} (f : A → B) (o : Option A) (y : B) → option_map f o ≡ Some y
    → (x : A) × (o ≡ Some x) × (f x ≡ y)
mapped f o y e = grind (arith, same_Some)

pub went_on : {A B : Type 0} (f : A → Option B) (o : Option A) (y : B) → option_and_then f o ≡ Some y
    → (x : A) × (o ≡ Some x) × (f x ≡ Some y)
went_on f o y e = grind arith

pub word32 : (word : List ℕ) (n : ℕ) → number_of 32 word ≡ Some n → (word ≡ decimal n) × (n < 2 ^ 32)
word32 word n e = is_spelled 32 word n (lit≤ tt) e

pub word64 : (word : List ℕ) (n : ℕ) → number_of 64 word ≡ Some n → (word ≡ decimal n) × (n < 2 ^ 64)
word64 word n e = is_spelled 64 word n (lit≤ tt) e

pub text_is : (word text : List ℕ) → is_spaceless word ≡ true → text_of word ≡ Some text
    → (word ≡ text) × IsText text
text_is word text h e = grind (arith, same_Some)

-- a request that words spell is the one that they are read as
pub along : (words : List (List ℕ)) (q r : Request) → Some q ≡ Some r → IsSpelled words q → IsSpelled words r
along words q r e h = subst (λ (x : Request). IsSpelled words x) (same_Some q r e) h

-- an access is spelled where the name is one
pub if_name : (name : List ℕ) (a : Access) (words : List (List ℕ)) (r : Request) → named_if name a ≡ Some r
    → (is_name name ≡ true → IsSpelled words (named name a)) → IsSpelled words r
if_name name a words r e h = grind (arith, along)
