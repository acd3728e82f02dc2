-- Answers that are read line by line.
use Rattle.std.proofs.Common.{◌≡◌, ℕ, suc, ◌+◌, ◌<◌, ◌≤◌, List, [], ◌∷◌, ◌++◌, Bor, length, get_or, map, take, drop, ap, arith, append_assoc, length-append, add-zero, length-drop}
use Rattle.std.proofs.lemmas.List.{append-nil, drop-drop, drop-map, length-map, length-take-le, map-append, map_more, take-map}
use Rattle.hp_explain.specs.Answers.{AreAllUntimed, AreUntimed, IsPushed, IsScriptAt, run_lines, script_lines, seen_lines}
use Rattle.hp_explain.specs.declared.observed.ObservedLine.{ObservedLine}

-- what a processor's answers keep
pub record IsReadUpTo (rest : List (Bor (List ℕ))) (i : ℕ) (seen : List ObservedLine) : Type 0 where
  pub count : length seen ≡ i
  pub room : i ≤ length rest
  pub lines : take i (map (λ x. x.now) rest) ≡ seen_lines seen
  pub plain : AreUntimed seen

-- one more line
pub take_text : (rest : List (Bor (List ℕ))) (i : ℕ) (d : Bor (List ℕ)) → i < length rest
    → take (i + 1) (map (λ x. x.now) rest) ≡ take i (map (λ x. x.now) rest) ++ (get_or rest i d).now ∷ []
take_text rest i d within = simp take-map (map_more (λ (x : Bor (List ℕ)). x.now) rest i d within)

-- one more answer
pub read_more : (rest : List (Bor (List ℕ))) (i : ℕ) (d : Bor (List ℕ)) (old new : List ObservedLine)
    → i < length rest → IsPushed old (get_or rest i d).now new → IsReadUpTo rest i old
    → IsReadUpTo rest (i + 1) new
read_more rest i d old new within pushed so_far = record {
  count = omega (arith, simp length-append at (ap length pushed.2), so_far.count);
  room = omega (arith, within);
  lines = rw (pushed.2, take_text rest i d within, so_far.lines, pushed.1, map-append);
  plain = rw (pushed.2, map-append, so_far.plain);
}

-- what the processors' answers keep
pub record AreReadUpTo {A : Type 0} (texts : List (Bor (List ℕ))) (scripts : List (List A)) (cpu place : ℕ)
    (seen : List (List ObservedLine)) : Type 0 where
  pub sizes : map length seen ≡ map length (take cpu scripts)
  pub below : cpu ≤ length scripts
  pub room : place ≤ length texts
  pub lines : map (λ x. x.now) texts ≡ run_lines 0 seen ++ map (λ x. x.now) (drop place texts)
  pub plain : AreAllUntimed seen

-- the lines of one more processor
pub run_more : (cpu : ℕ) (seen : List (List ObservedLine)) (one : List ObservedLine)
    → run_lines cpu (seen ++ one ∷ []) ≡ run_lines cpu seen ++ script_lines (cpu + length seen) one
run_more cpu [] one = rw (append-nil, add-zero)
run_more cpu (s ∷ seen) one =
    let after : suc cpu + length seen ≡ cpu + suc (length seen) = omega arith in
    rw (run_more (suc cpu) seen one, after) (simp append_assoc)

-- one more processor
pub script_more : {A : Type 0} (texts : List (Bor (List ℕ))) (scripts : List (List A)) (cpu place count : ℕ)
    (old new : List (List ObservedLine)) (one : List ObservedLine) (script : List A)
    → cpu < length scripts → script ≡ get_or scripts cpu script → count ≡ length script
    → IsScriptAt (map (λ x. x.now) (drop place texts)) cpu count one → new ≡ old ++ one ∷ []
    → AreReadUpTo texts scripts cpu place old
    → AreReadUpTo texts scripts (cpu + 1) (place + (count + 1)) new
script_more {A} texts scripts cpu place count old new one script within this size read same so_far = record {
  sizes =
      rw (same, map-append, so_far.sizes, map_more length scripts cpu script within, ← this, ← size, read.1);
  below = omega (arith, within);
  room =
      omega (arith, read.1, so_far.room, simp (length-append, length-map, length-drop) at (ap length read.0));
  lines =
      rw (so_far.lines, read.0, drop-map, drop-drop, same, run_more 0 old one, number) (simp append_assoc);
  plain = rw (same, map-append, so_far.plain, read.2);
}
  where
    number : 0 + length old ≡ cpu
    number =
        omega (
          arith,
          simp (length-map, length-take-le cpu scripts so_far.below) at (ap length so_far.sizes),
        )
