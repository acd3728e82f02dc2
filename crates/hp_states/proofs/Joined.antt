-- Texts or rows that stand in one buffer, one after another.
use Rattle.std.proofs.Common.{ℕ, zero, suc, ◌≡◌, ◌+◌, ◌<◌, ◌≤◌, List, [], ◌∷◌, ◌++◌, OnErr, OnOk, IfOk, Result, Ok, Err, Some, length, get_or, refl, ap, arith, slice_get}
use Rattle.std.specs.Prelude.{slice_range}
use Rattle.std.proofs.lemmas.List.{drop-append-le, drop_at, length-append, length-drop, take-append-le, take_all}
use Rattle.hp_laws.proofs.Lists.{get_end}
use Rattle.hp_schedules.proofs.Counting.{get_longer}
use Rattle.hp_states.specs.Codes.{KeepCodes}
use Rattle.hp_states.specs.Texts.{AreTextsFrom, start_of, texts_from}

-- there are as many as ends
pub count : {X : Type 0} (bytes : List X) (start : ℕ) (ends : List ℕ)
    → length (texts_from bytes start ends) ≡ length ends
count bytes start [] = refl
count bytes start (end ∷ ends) = ap suc (count bytes end ends)

-- each but the first starts where the one before it ends
starts_next : (start : ℕ) (ends : List ℕ) (number : ℕ) → number < length ends
    → start_of start ends (suc number) ≡ get_or ends number 0
starts_next start [] number low = absurd (omega arith)
starts_next start (end ∷ ends) zero low = refl
starts_next start (end ∷ ends) (suc number) low = starts_next end ends number (omega arith)

pub starts_after : (start : ℕ) (ends : List ℕ) (number before : ℕ) → number < length ends
    → number ≡ suc before → get_or ends before 0 ≡ start_of start ends number
starts_after start ends number before low is = rw (is, starts_next start ends before (omega arith))

-- the text of a number
pub text_at : {X : Type 0} (bytes : List X) (start : ℕ) (ends : List ℕ) (number : ℕ) → number < length ends
    → slice_get (texts_from bytes start ends) number
    ≡ Some (slice_range bytes (start_of start ends number) (get_or ends number 0))
text_at bytes start [] number low = absurd (omega arith)
text_at bytes start (end ∷ ends) zero low = refl
text_at bytes start (end ∷ ends) (suc number) low = text_at bytes end ends number (omega arith)

-- the places lie within the buffer
below : (size start : ℕ) (ends : List ℕ) → AreTextsFrom size start ends → start ≤ size
below size start [] are = omega (arith, are)
below size start (end ∷ ends) are = omega (arith, are.0, below size end ends are.1)

pub record LiesWithin (size start end : ℕ) : Type 0 where
  pub ordered : start ≤ end
  pub within : end ≤ size

pub lies_within : (size start : ℕ) (ends : List ℕ) (number : ℕ) → AreTextsFrom size start ends
    → number < length ends → LiesWithin size (start_of start ends number) (get_or ends number 0)
lies_within size start [] number are low = absurd (omega arith)
lies_within size start (end ∷ ends) zero are low =
    record { ordered = are.0; within = below size end ends are.1 }
lies_within size start (end ∷ ends) (suc number) are low =
    lies_within size end ends number are.1 (omega arith)

-- ---- one text more

pub still_texts : (size more start : ℕ) (ends : List ℕ) → AreTextsFrom size start ends
    → AreTextsFrom (size + more) start (ends ++ (size + more) ∷ [])
still_texts size more start [] are = (omega (arith, are), refl)
still_texts size more start (end ∷ ends) are = (are.0, still_texts size more end ends are.1)

-- a text that was there
same_text : {X : Type 0} (bytes more : List X) (start end : ℕ) → start ≤ end → end ≤ length bytes
    → slice_range (bytes ++ more) start end ≡ slice_range bytes start end
same_text bytes more start end ordered within = grind (arith, drop-append-le, take-append-le, length-drop)

-- the text that comes
new_text : {X : Type 0} (bytes more : List X)
    → slice_range (bytes ++ more) (length bytes) (length bytes + length more) ≡ more
new_text bytes more = grind (arith, drop_at, take_all)

pub text_added : {X : Type 0} (bytes more : List X) (start : ℕ) (ends : List ℕ)
    → AreTextsFrom (length bytes) start ends
    → texts_from (bytes ++ more) start (ends ++ (length bytes + length more) ∷ [])
    ≡ texts_from bytes start ends ++ more ∷ []
text_added bytes more start [] are =
    rw (are, new_text bytes more)
text_added bytes more start (end ∷ ends) are =
    rw (
      same_text bytes more start end are.0 (below (length bytes) end ends are.1),
      text_added bytes more end ends are.1,
    )

-- the earlier texts keep their numbers, also if the addition is out of memory and changes nothing
pub keep_added : {E : Type 0} (r : Result ℕ E) (old new : List (List ℕ)) (text : List ℕ)
    → OnOk r (new ≡ old ++ text ∷ []) → OnErr r (new ≡ old) → KeepCodes old new
keep_added (Ok n) old new text more same k c is = rw more (get_longer old _ k c is)
keep_added (Err e) old new text more same k c is = rw same is

-- the new text has the next number
pub number_added : {E : Type 0} (r : Result ℕ E) (old new : List (List ℕ)) (text : List ℕ)
    → OnOk r (new ≡ old ++ text ∷ []) → IfOk r (λ n. n ≡ length old)
    → IfOk r (λ n. slice_get new n ≡ Some text)
number_added (Ok n) old new text more at = rw (more, at) (get_end old text)
number_added (Err e) old new text more at = tt

-- both of a buffer and its ends, after a text more
pub texts_on : {X : Type 0} (bytes more bytes' : List X) (ends ends' : List ℕ) (at : ℕ)
    → AreTextsFrom (length bytes) 0 ends
    → bytes' ≡ bytes ++ more → ends' ≡ ends ++ at ∷ [] → at ≡ length bytes'
    → AreTextsFrom (length bytes') 0 ends'
texts_on bytes more bytes' ends ends' at are b e is = grind (arith, length-append, still_texts)

pub texts_are : {X : Type 0} (bytes more bytes' : List X) (ends ends' : List ℕ) (at : ℕ)
    → AreTextsFrom (length bytes) 0 ends
    → bytes' ≡ bytes ++ more → ends' ≡ ends ++ at ∷ [] → at ≡ length bytes'
    → texts_from bytes' 0 ends' ≡ texts_from bytes 0 ends ++ more ∷ []
texts_are bytes more bytes' ends ends' at are b e is = grind (arith, length-append, text_added)
