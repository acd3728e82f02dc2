-- Answers that are taken from one object after another.
use Rattle.std.proofs.Common.{◌≡◌, ℕ, ◌+◌, ◌<◌, ◌≤◌, ◌==◌, Bool, true, false, cond, List, [], ◌∷◌, ◌++◌, Bor, Result, Ok, Err, IfOk, length, get_or, drop, map, take, slice_set, add-zero, refl, ap, sym, arith, inl, inr}
use Rattle.std.proofs.lemmas.Bool.{eq-eqb, ne_eqb}
use Rattle.std.proofs.lemmas.List.{append-nil, drop-drop, drop-set-lt, get_or-drop, length-map, length-set, map-append, map_more, take_all}
use Rattle.std.proofs.lemmas.List.Elements.{filter-append}
use Rattle.std.proofs.lemmas.Option.{slice_get_within}
use Rattle.std.proofs.Math.Dec.{eqb-suc-zero}
use Rattle.hp_laws.proofs.Lists.{get_push_cases}
use Rattle.hp_schedules.proofs.Counts.{get_set_cases}
use Rattle.hp_explain.proofs.AnswersRead.{take_text}
use Rattle.hp_explain.specs.AnswerObjects.{AreObjects, AreSeen, AreToldBy, IsLineTaken, IsObjectLine, IsTaken, filled, full_lines, told_of}
use Rattle.hp_explain.specs.Answers.{is_empty}
use Rattle.hp_explain.specs.declared.answer_objects.SeenObject.{SeenObject}
use Rattle.hp_explain.specs.declared.observed.ObservedLine.{ObservedLine}

-- ---- one more object

pub objects_more : (texts : List (List ℕ)) (objects : List SeenObject) (text : List ℕ) (o : SeenObject)
    → AreObjects texts objects → IsObjectLine text o → AreObjects (texts ++ text ∷ []) (objects ++ o ∷ [])
objects_more [] [] text o all here = (here, tt)
objects_more (t ∷ texts) (x ∷ objects) text o all here = (all.0, objects_more texts objects text o all.1 here)
objects_more texts objects text o all here = absurd all

of_cpu : (cpu : ℕ) (objects : List SeenObject) (o : SeenObject) (is : Bool) → (o.cpu == cpu) ≡ is
    → told_of cpu (objects ++ o ∷ [])
    ≡ told_of cpu objects ++ map (λ (x : SeenObject). x.line) (cond is (o ∷ []) [])
of_cpu cpu objects o is test = rw (filter-append, map-append, test)

-- the processors are told of one more object
pub told_by_more : (objects : List SeenObject) (o : SeenObject) (old new : List (List ObservedLine))
    → AreToldBy objects old → IsTaken old o new → AreToldBy (objects ++ o ∷ []) new
told_by_more objects o old new told taken =
    rw taken.2 (
      λ cpu one here. elim (get_set_cases old o.cpu (taken.0 ++ o.line ∷ []) cpu one here) [
        | inl p ↦
            rw (← p.1, of_cpu cpu objects o true (eq-eqb o.cpu cpu (sym p.0)))
            (ap (λ (z : List ObservedLine). z ++ o.line ∷ []) (told.0 cpu taken.0 (rw p.0 taken.1)))
        | inr p ↦
            rw (of_cpu cpu objects o false (ne_eqb o.cpu cpu (λ same. p.0 (sym same))), append-nil)
            (told.0 cpu one p.1)
      ],
      λ k x here. rw length-set (elim (get_push_cases objects o x k here) [
        | inl before ↦ told.1 k x before
        | inr last ↦ rw (← last.1) (slice_get_within old o.cpu taken.0 taken.1)
      ]),
    )

-- ---- one more line

empty_told : (text : List ℕ) → (length text == 0) ≡ is_empty text
empty_told [] = refl
empty_told (b ∷ text) = eqb-suc-zero (length text)

-- what the lines keep
pub record AreTakenUpTo (rest : List (Bor (List ℕ))) (i count : ℕ) (seen : List (List ObservedLine))
    : Type 0 where
  pub objects : List SeenObject
  pub lines : AreObjects (full_lines (take i (map (λ x. x.now) rest))) objects
  pub size : length seen ≡ count
  pub told : AreToldBy objects seen

pub taken_empty : (rest : List (Bor (List ℕ))) (i count : ℕ) (d : Bor (List ℕ))
    (seen : List (List ObservedLine))
    → i < length rest → (length (get_or rest i d).now == 0) ≡ true → AreTakenUpTo rest i count seen
    → AreTakenUpTo rest (i + 1) count seen
taken_empty rest i count d seen within empty so_far = record {
  objects = so_far.objects;
  lines =
      rw (take_text rest i d within, filter-append, ← empty_told (get_or rest i d).now, empty, append-nil)
      so_far.lines;
  size = so_far.size;
  told = so_far.told;
}

pub taken_more : (rest : List (Bor (List ℕ))) (i count : ℕ) (d : Bor (List ℕ))
    (old new : List (List ObservedLine))
    → i < length rest → (length (get_or rest i d).now == 0) ≡ false
    → IsLineTaken (get_or rest i d).now old new
    → AreTakenUpTo rest i count old → AreTakenUpTo rest (i + 1) count new
taken_more rest i count d old new within full taken so_far = record {
  objects = so_far.objects ++ taken.0 ∷ [];
  lines =
      rw (take_text rest i d within, filter-append, ← empty_told (get_or rest i d).now, full)
      (objects_more (full_lines (take i (map (λ (x : Bor (List ℕ)). x.now) rest))) so_far.objects
      (get_or rest i d).now taken.0 so_far.lines taken.1);
  size = rw (taken.2.2, length-set) so_far.size;
  told = told_by_more so_far.objects taken.0 old new so_far.told taken.2;
}

-- ---- all processors

-- what the processors' lines keep while they are filled in
pub record AreFilledUpTo {A : Type 0} (scripts : List (List A)) (old : List (List ObservedLine)) (cpu : ℕ)
    (seen observed : List (List ObservedLine)) : Type 0 where
  pub sizes : map length observed ≡ map length (take cpu scripts)
  pub made : observed ≡ map filled (take cpu old)
  pub rest : drop cpu seen ≡ drop cpu old

pub filled_more : {A : Type 0} (scripts : List (List A)) (old : List (List ObservedLine)) (cpu : ℕ)
    (seen observed new : List (List ObservedLine)) (d one after : List ObservedLine) (script : List A)
    → length old ≡ length scripts → cpu < length scripts → script ≡ get_or scripts cpu script
    → length one ≡ length script → one ≡ filled (get_or seen cpu d) → new ≡ observed ++ one ∷ []
    → AreFilledUpTo scripts old cpu seen observed
    → AreFilledUpTo scripts old (cpu + 1) (slice_set seen cpu after) new
filled_more {A} scripts old cpu seen observed new d one after script same within this size here pushed so_far
    = record {
      sizes =
          rw (pushed, map-append, so_far.sizes, map_more length scripts cpu script within, ← this, size);
      made =
          rw (pushed, so_far.made, map_more filled old cpu d (omega (arith, same, within)), here, own);
      rest =
          rw (drop-set-lt (cpu + 1) seen cpu after (omega arith), ← drop-drop 1 cpu seen, so_far.rest)
          (drop-drop 1 cpu old);
    }
  where
    own : get_or seen cpu d ≡ get_or old cpu d
    own = simp (get_or-drop, add-zero) at (ap (λ (z : List (List ObservedLine)). get_or z 0 d) so_far.rest)

-- all lines are taken
pub taken_all : {A E : Type 0} (items : A → List (List ObservedLine)) (rest : List (Bor (List ℕ)))
    (i count : ℕ) (seen : List (List ObservedLine)) (r : Result A E)
    → length rest ≤ i → AreTakenUpTo rest i count seen
    → IfOk r (λ observed. items observed ≡ map filled seen)
    → IfOk r (λ observed. AreSeen (map (λ x. x.now) rest) (items observed))
taken_all items rest i count seen (Err e) all so_far made = tt
taken_all items rest i count seen (Ok observed) all so_far made =
    let texts = map (λ (x : Bor (List ℕ)). x.now) rest in
    let long : length texts ≤ i = rw length-map all in
    (so_far.objects, seen, rw (take_all i texts long) at so_far.lines, so_far.told, made)
