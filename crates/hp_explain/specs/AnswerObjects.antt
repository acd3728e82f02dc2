-- The answers of processors as JSON, one object per line.
use Rattle.std.specs.Prelude.{◌≡◌, ◌⊎◌, ℕ, ◌<◌, ◌==◌, not, List, [], ◌∷◌, ◌++◌, codes, filter, length, map, min, replicate, Option, Some, None, option_and_then, slice_get, slice_set}
use Rattle.std.specs.Fmt.{decimal}
use Rattle.std.specs.Str.Lines.{lines}
use Rattle.json.specs.Find.{as_number, as_str, get}
use Rattle.json.specs.Json.{Json, document}
use Rattle.hp_explain.specs.Answers.{answer_text, is_empty}
use Rattle.hp_explain.specs.declared.answer_objects.SeenObject.{SeenObject}
use Rattle.hp_explain.specs.declared.observed.ObservedLine.{ObservedLine}

-- ---- an object

-- the number at a key, as it is written
abbrev pub number_at : (key : List ℕ) → Json → Option (List ℕ)
number_at key j = option_and_then as_number (get key j)

-- the text at a key
abbrev pub text_at : (key : List ℕ) → Json → Option (List ℕ)
text_at key j = option_and_then as_str (get key j)

-- the time at a key; `unknown` if the object does not have the key
abbrev pub HasTime : (key : List ℕ) → (unknown : ℕ) → Json → (time : ℕ) → Type 0
HasTime key unknown j time =
    (number_at key j ≡ Some (decimal time)) ⊎ ((get key j ≡ None) × (time ≡ unknown))

-- the object has this processor, answer and times
abbrev pub IsObject : Json → SeenObject → Type 0
IsObject j o =
    (number_at (codes "cpu") j ≡ Some (decimal o.cpu))
    × (text_at (codes "answer") j ≡ Some (answer_text o.line.answer))
    × HasTime (codes "from") 0 j o.line.from
    × HasTime (codes "to") 18446744073709551615 j o.line.to

-- the text is a JSON object with this processor, answer and times
abbrev pub IsObjectLine : List ℕ → SeenObject → Type 0
IsObjectLine text o = (j : Json) × (document text ≡ Some j) × IsObject j o

-- ---- all objects

-- the lines that are not empty
abbrev pub full_lines : List (List ℕ) → List (List ℕ)
full_lines texts = filter (λ text. not (is_empty text)) texts

-- the texts are these objects, in their order
abbrev pub AreObjects : List (List ℕ) → List SeenObject → Type 0
AreObjects [] [] = Unit {0}
AreObjects [] (o ∷ objects) = ⊥
AreObjects (text ∷ texts) [] = ⊥
AreObjects (text ∷ texts) (o ∷ objects) = IsObjectLine text o × AreObjects texts objects

-- the answers in a processor's objects, with the times that these have
abbrev pub told_of : (cpu : ℕ) → List SeenObject → List ObservedLine
told_of cpu objects = map (λ (o : SeenObject). o.line) (filter (λ (o : SeenObject). o.cpu == cpu) objects)

-- the time by which the first line was answered; 2^64-1 without a line
abbrev pub first_to : List ObservedLine → ℕ
first_to [] = 18446744073709551615
first_to (one ∷ later) = one.to

-- the lines with their times filled in. Each gets the lowest `to` of its own and of the lines after
-- it, because no line was answered later than a line after it
abbrev pub filled : List ObservedLine → List ObservedLine
filled [] = []
filled (one ∷ later) = record one { to = min one.to (first_to (filled later)) } ∷ filled later

-- the list has this many processors, and no answer of any of them
abbrev pub AreUnseen : (processors : ℕ) → List (List ObservedLine) → Type 0
AreUnseen processors seen = seen ≡ replicate processors []

-- one more answer of a processor was appended
abbrev pub IsTaken : (old : List (List ObservedLine)) → SeenObject → (new : List (List ObservedLine)) → Type 0
IsTaken old o new =
    (own : List ObservedLine) × (slice_get old o.cpu ≡ Some own)
    × (new ≡ slice_set old o.cpu (own ++ o.line ∷ []))

-- the line is an object, and its answer is appended to its processor's answers
abbrev pub IsLineTaken : (text : List ℕ) → (old new : List (List ObservedLine)) → Type 0
IsLineTaken text old new = (o : SeenObject) × IsObjectLine text o × IsTaken old o new

-- each processor has the answers in its objects, in their order, and each object names one of these
-- processors
abbrev pub AreToldBy : List SeenObject → List (List ObservedLine) → Type 0
AreToldBy objects seen =
    ((cpu : ℕ) (own : List ObservedLine) → slice_get seen cpu ≡ Some own → own ≡ told_of cpu objects)
    × ((k : ℕ) (o : SeenObject) → slice_get objects k ≡ Some o → o.cpu < length seen)

-- the texts that are not empty are objects, and each processor has the answers in its objects, with
-- their times filled in
abbrev pub AreSeen : (texts : List (List ℕ)) → List (List ObservedLine) → Type 0
AreSeen texts seen =
    (objects : List SeenObject) × (told : List (List ObservedLine)) × AreObjects (full_lines texts) objects
    × AreToldBy objects told × (seen ≡ map filled told)

-- the text has these answers as objects
abbrev pub AreObjectsOf : (input : List ℕ) → List (List ObservedLine) → Type 0
AreObjectsOf input seen = AreSeen (lines input) seen
