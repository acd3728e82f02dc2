-- Objects that show how a state changed.
use Rattle.std.proofs.Common.{◌≡◌, ◌≢◌, ℕ, Bool, true, false, List, [], ◌∷◌, ◌++◌, Option, refl, ap, append_assoc, inl, arith, get_or, drop, length}
use Rattle.json.specs.Print.{ends, print, print_from}
use Rattle.json.specs.Token.{Token, end_object}
use Rattle.hp_plain.specs.Image.{Pictured}
use Rattle.hp_machine.specs.Machine.{MachineValue}
use Rattle.hp_trace_json.specs.ChangeObjects.{IsChangeObject, TellsChange, no_change}
use Rattle.hp_trace_json.specs.Changes.{ChangeValue}
use Rattle.hp_live.specs.Answers.{AnswerValue}
use Rattle.hp_live.specs.Objects.{WritesObject, head_of}
use Rattle.hp_live.specs.Sessions.{SessionValue}
use Rattle.hp_live.specs.Talks.{ShowsIf, ShowsObject, StatesValue, TellsIn, kept_states, number_of, object_end, picture}

-- ---- the end of an object

print_end : (after : Bool) (ts : List Token)
    → print_from after (ts ++ end_object ∷ []) ≡ print_from after ts ++ 125 ∷ []
unfolding print_from
print_end false [] = refl
print_end true [] = refl
print_end after (t ∷ ts) = grind (arith, append_assoc, (print_end (ends t) ts))

pub object_ends : (number : ℕ) (a : AnswerValue) (object : List ℕ) → WritesObject [] number a object
    → (front : List ℕ) × (object ≡ front ++ object_end)
object_ends number a object writes =
    let before : List Token = head_of number a.text ++ writes.0 in (
      print before,
      rw (writes.3, ← append_assoc (head_of number a.text) writes.0 (end_object ∷ []), print_end false before)
          (append_assoc (print before) (125 ∷ []) (10 ∷ [])),
    )

-- an answer and a session that stayed as they were, shown in an object
pub answer_shown : (a b : AnswerValue) (s t : SessionValue) (states u new : StatesValue)
    (m : MachineValue) (object reply : List ℕ) (shown : Option Pictured) → b ≡ a → t ≡ s → u ≡ states
    → m ≡ t.machine
    → WritesObject [] (number_of b.did t.lines) b object
    → ((front : List ℕ) → object ≡ front ++ object_end
    → ShowsIf u.is_shown u.last (picture m) shown front reply)
    → new ≡ kept_states u shown
    → ShowsObject (number_of a.did s.lines) a states s.machine reply new
answer_shown a b s t states u new m object reply shown same stays still is writes shows keeps =
    let end = object_ends (number_of b.did t.lines) b object writes in
    rw (← same, ← stays, ← still) (record {
      front = end.0;
      object = rw end.1 at writes;
      shown = shown;
      shows = rw (← is) (shows end.0 end.1);
      kept = keeps;
    })

-- ---- the object of a change

first_is : {x y : ℕ} {xs ys : List ℕ} → x ∷ xs ≡ y ∷ ys → x ≡ y
first_is e = ap (λ (l : List ℕ). get_or l 0 0) e

rest_is : {x y : ℕ} {xs ys : List ℕ} → x ∷ xs ≡ y ∷ ys → xs ≡ ys
rest_is e = ap (λ (l : List ℕ). drop 1 l) e

-- it begins with a bracket
pub change_begins : (change : ChangeValue) (x : ℕ) (keys : List ℕ) → IsChangeObject change (x ∷ keys)
    → x ∷ keys ≡ 123 ∷ keys
unfolding print_from
change_begins change x keys object = ap (λ (b : ℕ). b ∷ keys) (first_is object.is)

pub change_some : (change : ChangeValue) (text : List ℕ) → IsChangeObject change text → length text ≢ 0
unfolding print_from
change_some change text object none = cc

empty_told : (change : ChangeValue) (inside : List Token) → TellsChange change inside
    → print_from false (inside ++ end_object ∷ []) ≡ 125 ∷ [] → change ≡ no_change
unfolding print_from
empty_told change inside x is = grind (arith, first_is)

-- it is empty if nothing changed
change_empty : (change : ChangeValue) (text keys : List ℕ) → IsChangeObject change text → text ≡ 123 ∷ keys
    → keys ≡ 125 ∷ [] → change ≡ no_change
unfolding print_from
change_empty change text keys object begins is = grind (arith, empty_told, rest_is)

-- an object stays as it is if nothing changed
pub unchanged_told : (front : List ℕ) (change : ChangeValue) (object text keys : List ℕ)
    → object ≡ front ++ object_end → IsChangeObject change text → text ≡ 123 ∷ keys → keys ≡ 125 ∷ []
    → TellsIn front change object
unchanged_told front change object text keys ends told begins is =
    inl (change_empty change text keys told begins is, ends)
