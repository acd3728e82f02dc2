-- Lines that are dealt to the scripts of their processors, one after another.
use Rattle.std.proofs.Common.{◌≡◌, ◌≢◌, ◌==◌, ℕ, ◌<◌, ◌≤◌, Bool, true, false, not, List, [], ◌∷◌, ◌++◌, length, map, cond, eqb, get_or, set, reverse, refl, sym, ap, ◌∙◌, arith, None}
use Rattle.std.specs.List.{All, list_all, position_or_len, range_with_len}
use Rattle.std.proofs.lemmas.List.{append-nil, append_assoc, ext_get_or, get_or-set_other, length-set, reverse-append, reverse-reverse}
use Rattle.std.proofs.lemmas.List.Elements.{All-filter, All-map}
use Rattle.std.proofs.lemmas.List.Folds.{list_all-append}
use Rattle.std.proofs.lemmas.List.FromFn.{get_or-map-range_with_len, length-map-range_with_len}
use Rattle.std.proofs.lemmas.List.Sums.{AllPass-from_list_all, fails_before_first, list_all-from_AllPass}
use Rattle.std.proofs.lemmas.Bool.{eqb-false, eqb-true, ltb-false, ltb-true, ne_eqb, and_from, and_parts, not-false}
use Rattle.std.proofs.lemmas.Grind.{get_or-set_at}
use Rattle.hp_scenario.specs.Scripts.{AreAllOf, AreForRun, IsForRun, first_unfit, is_for_run, script_of}
use Rattle.hp_scenario.specs.declared.lines.Line.{Line}

-- what the lines that are left, of which the last goes next, add to the scripts so far, makes the
-- scripts of all lines
abbrev pub AreDealt : (lines left : List Line) (scripts : List (List Line)) → Type 0
AreDealt lines left scripts =
    (cpu : ℕ) → cpu < length scripts
    → get_or scripts cpu [] ++ script_of (reverse left) cpu ≡ script_of lines cpu

-- no line is dealt
pub none_dealt : (lines left : List Line) (scripts : List (List Line)) (cpus : ℕ) → left ≡ reverse lines
    → scripts ≡ map (script_of []) (range_with_len 0 cpus) → AreDealt lines left scripts
none_dealt lines left scripts cpus left_is scripts_are cpu within =
    grind (arith, length-map-range_with_len, get_or-map-range_with_len, reverse-reverse)

-- a line more is dealt
one_dealt : (lines old left : List Line) (line : Line) (scripts : List (List Line)) (own : List Line)
    → old ≡ left ++ line ∷ [] → own ≡ get_or scripts line.cpu [] ++ line ∷ [] → line.cpu < length scripts
    → AreDealt lines old scripts → AreDealt lines left (set scripts line.cpu own)
one_dealt lines old left line scripts own old_is own_is inside before cpu within =
    by_cpu (eqb line.cpu cpu) refl
  where
    next : reverse old ≡ line ∷ reverse left
    next = ap reverse old_is ∙ reverse-append left (line ∷ [])

    room : cpu < length scripts
    room = omega (arith, within, length-set scripts line.cpu own)

    due : get_or scripts cpu [] ++ cond (eqb line.cpu cpu) (line ∷ script_of (reverse left) cpu)
        (script_of (reverse left) cpu) ≡ script_of lines cpu
    due = ap (λ (xs : List Line). get_or scripts cpu [] ++ script_of xs cpu) (sym next) ∙ before cpu room

    by_cpu : (is_own : Bool) → eqb line.cpu cpu ≡ is_own
        → get_or (set scripts line.cpu own) cpu [] ++ script_of (reverse left) cpu ≡ script_of lines cpu
    by_cpu true e =
        let same : line.cpu ≡ cpu = eqb-true line.cpu cpu e in
        let here : get_or (set scripts line.cpu own) cpu [] ≡ get_or scripts cpu [] ++ line ∷ [] =
        rw (get_or-set_at scripts line.cpu cpu own [] (sym same) inside, own_is, same) in
        ap (λ (xs : List Line). xs ++ script_of (reverse left) cpu) here
        ∙ (append_assoc (get_or scripts cpu []) (line ∷ []) (script_of (reverse left) cpu)
        ∙ (ap (λ (t : Bool). get_or scripts cpu []
        ++ cond t (line ∷ script_of (reverse left) cpu) (script_of (reverse left) cpu)) (sym e) ∙ due))
    by_cpu false e =
        let other : cpu ≢ line.cpu = λ same. eqb-false line.cpu cpu e (sym same) in
        ap (λ (xs : List Line). xs ++ script_of (reverse left) cpu)
        (get_or-set_other scripts line.cpu cpu own [] other)
        ∙ (ap (λ (t : Bool). get_or scripts cpu []
        ++ cond t (line ∷ script_of (reverse left) cpu) (script_of (reverse left) cpu)) (sym e) ∙ due)

-- and where its place is said once more
pub one_dealt_at : (lines old left : List Line) (line : Line) (scripts : List (List Line)) (own : List Line)
    (place : ℕ)
    → place ≡ line.cpu → old ≡ left ++ line ∷ [] → own ≡ get_or scripts place [] ++ line ∷ []
    → place < length scripts → AreDealt lines old scripts → AreDealt lines left (set scripts place own)
one_dealt_at lines old left line scripts own place is old_is own_is inside before = grind (arith, one_dealt)

-- all lines are dealt
pub all_dealt : (lines left : List Line) (scripts : List (List Line)) (cpus : ℕ) → left ≡ []
    → length scripts ≡ cpus → AreDealt lines left scripts
    → scripts ≡ map (script_of lines) (range_with_len 0 cpus)
all_dealt lines left scripts cpus none count dealt =
    ext_get_or [] scripts (map (script_of lines) (range_with_len 0 cpus))
    (count ∙ sym (length-map-range_with_len (script_of lines) 0 cpus)) (λ cpu within.
    sym (append-nil (get_or scripts cpu []))
    ∙ (ap (λ (xs : List Line). get_or scripts cpu [] ++ script_of (reverse xs) cpu) (sym none)
    ∙ (dealt cpu within
    ∙ sym (get_or-map-range_with_len (script_of lines) 0 cpus cpu cpu [] (omega (arith, within, count))
    (omega arith)))))

-- the script of the processor whose all lines are
own_script : (cpu : ℕ) (lines : List Line) → list_all (λ line. line.cpu == cpu) lines ≡ true
    → script_of lines cpu ≡ lines
own_script cpu [] all = refl
own_script cpu (line ∷ lines) all =
    let both = and_parts (eqb line.cpu cpu) (list_all (λ line. line.cpu == cpu) lines) all in
    rw (both.0, own_script cpu lines both.1)

-- and that of another processor
other_script : (cpu other : ℕ) (lines : List Line) → other ≢ cpu
    → list_all (λ line. line.cpu == cpu) lines ≡ true → script_of lines other ≡ []
other_script cpu other [] apart all = refl
other_script cpu other (line ∷ lines) apart all =
    let both = and_parts (eqb line.cpu cpu) (list_all (λ line. line.cpu == cpu) lines) all in
    rw (differs (eqb-true line.cpu cpu both.0)) (other_script cpu other lines apart both.1)
  where
    differs : line.cpu ≡ cpu → eqb line.cpu other ≡ false
    differs same = ne_eqb line.cpu other (λ (e : line.cpu ≡ other). apart (sym e ∙ same))

-- where all lines are one processor's, its number is in the layout
pub one_within : (cpus cpu : ℕ) (lines : List Line) → AreAllOf lines cpu
    → list_all (is_for_run cpus) lines ≡ true → cpu < cpus
one_within cpus cpu [] all fit = absurd (omega (arith, all.0))
one_within cpus cpu (line ∷ lines) all fit = grind (arith, eqb-true, and_parts, ltb-true)

-- the scripts where all lines are one processor's
pub all_together : (cpus cpu : ℕ) (lines : List Line) (bare : List (List Line))
    → bare ≡ map (script_of []) (range_with_len 0 cpus) → AreAllOf lines cpu → cpu < cpus
    → set bare cpu lines ≡ map (script_of lines) (range_with_len 0 cpus)
all_together cpus cpu lines bare bare_is all inside =
    ext_get_or [] (set bare cpu lines) (map (script_of lines) (range_with_len 0 cpus)) (length-set bare cpu
    lines ∙ (count ∙ sym (length-map-range_with_len (script_of lines) 0 cpus))) (λ at within.
    let room : at < cpus = omega (arith, within, length-set bare cpu lines, count) in
    by_place at room (eqb at cpu) refl
    ∙ sym (get_or-map-range_with_len (script_of lines) 0 cpus at at [] room (omega arith)))
  where
    count : length bare ≡ cpus
    count = ap length bare_is ∙ length-map-range_with_len (script_of []) 0 cpus

    by_place : (at : ℕ) → at < cpus → (is_own : Bool) → eqb at cpu ≡ is_own
        → get_or (set bare cpu lines) at [] ≡ script_of lines at
    by_place at room true e =
        let same : at ≡ cpu = eqb-true at cpu e in
        get_or-set_at bare cpu at lines [] same (omega (arith, inside, count))
        ∙ (sym (own_script cpu lines all.1) ∙ ap (script_of lines) (sym same))
    by_place at room false e =
        grind (arith, eqb-false, get_or-set_other, get_or-map-range_with_len, other_script)

-- the search comes to the end
reached : (cpus : ℕ) (lines : List Line) → first_unfit cpus lines ≡ None
    → length lines ≤ position_or_len (λ line. not (is_for_run cpus line)) lines
reached cpus lines none = grind (arith, ltb-false)

-- a line that may be run reads no control file
reads_none : (cpus : ℕ) (line : Line) → is_for_run cpus line ≡ true → IsForRun line
reads_none cpus line fits = grind (arith, and_parts)

-- of lines that all may be run, the last may be, and the others
pub all_but_last : (cpus : ℕ) (old left : List Line) (line : Line) → old ≡ left ++ line ∷ []
    → list_all (is_for_run cpus) old ≡ true → (list_all (is_for_run cpus) left ≡ true) × (line.cpu < cpus)
all_but_last cpus old left line old_is all = grind (arith, and_parts, list_all-append, ltb-true)

-- lines that all may be run, in the other order
pub all_reversed : (cpus : ℕ) (lines : List Line) → list_all (is_for_run cpus) lines ≡ true
    → list_all (is_for_run cpus) (reverse lines) ≡ true
all_reversed cpus [] all = refl
all_reversed cpus (line ∷ lines) all =
    let parts = and_parts (is_for_run cpus line) (list_all (is_for_run cpus) lines) all in
    rw (reverse-append (line ∷ []) lines) (rw (list_all-append (is_for_run cpus) (reverse lines) (line ∷ []))
    (and_from (list_all (is_for_run cpus) (reverse lines)) (list_all (is_for_run cpus) (line ∷ []))
    (all_reversed cpus lines parts.1) (and_from (is_for_run cpus line) true parts.0 refl)))

-- where no line is found that no worker may run, all may be
pub all_fit : (cpus : ℕ) (lines : List Line) → first_unfit cpus lines ≡ None
    → list_all (is_for_run cpus) lines ≡ true
all_fit cpus lines none = grind (arith, list_all-from_AllPass, not-false, fails_before_first, reached)

-- the scripts of lines that all may be run
pub all_for_run : (cpus : ℕ) (lines : List Line) → list_all (is_for_run cpus) lines ≡ true
    → AreForRun (map (script_of lines) (range_with_len 0 cpus))
all_for_run cpus lines all =
    All-map (λ script. All IsForRun script) (script_of lines) (range_with_len 0 cpus) (λ k d within.
    All-filter _ IsForRun lines (λ at e inside.
    reads_none cpus (get_or lines at e) (AllPass-from_list_all (is_for_run cpus) lines all at e inside)))
