-- Lines that are run in order with numbers in them, one more after another.
use Rattle.std.proofs.Common.{◌≡◌, ℕ, zero, suc, ◌+◌, ◌≤◌, List, [], ◌∷◌, ◌++◌, length, take, drop, set, slice_get, refl, sym, ap, ◌∙◌, append_assoc, arith, Option, Some, min, inl, inr}
use Rattle.std.specs.Option.{option_flatten}
use Rattle.std.proofs.Math.Seq.{drop-nil}
use Rattle.std.proofs.lemmas.Bool.{cases_lt}
use Rattle.std.proofs.lemmas.List.{drop-drop, drop-set-lt, drop_all, take_min, take_more_set, length-take-le}
use Rattle.std.proofs.lemmas.Option.{slice_get_within}
use Rattle.hp_laws.proofs.Replays.{take_one}
use Rattle.hp_schedules.proofs.Asked.{lines_here}
use Rattle.hp_units.specs.LayoutParts.{LayoutParts}
use Rattle.hp_machine.specs.Machine.{MachineValue, booted}
use Rattle.hp_scenario.specs.declared.lines.Line.{Line}
use Rattle.hp_scripts.specs.Bindings.{Bound, numbered}
use Rattle.hp_scripts.specs.Resolved.{PutsNumbers, RunsFront, first_source, line_after, lines_after, sources_after}
use Rattle.hp_scripts.specs.Runs.{RunsLine}

-- ---- numbers in lines

-- the source of the line at a place
pub source_here : (sources : List (Option ℕ)) (i : ℕ)
    → option_flatten (slice_get sources i) ≡ first_source (drop i sources)
source_here [] zero = refl
source_here [] (suc i) = refl
source_here (source ∷ sources) zero = refl
source_here (source ∷ sources) (suc i) = source_here sources i

-- one more line gets its number
pub put_one : (lines : List Line) (sources : List (Option ℕ)) (numbers : List ℕ) (i : ℕ) (line new : Line)
    (total : List Line) → slice_get lines i ≡ Some line
    → new ≡ line_after numbers (first_source (drop i sources)) line
    → take i lines ++ lines_after numbers (drop i sources) (drop i lines) ≡ total
    → take (i + 1) (set lines i new)
    ++ lines_after numbers (drop (i + 1) sources) (drop (i + 1) (set lines i new)) ≡ total
put_one lines sources numbers i line new total here is so_far =
    rw (
      take_more_set lines i new (slice_get_within lines i line here),
      drop-set-lt (i + 1) lines i new (omega arith),
      append_assoc (take i lines) (new ∷ []),
    ) (rw (lines_here lines i line here, ← is, drop-drop 1 i sources) at so_far)

-- ---- runs

drop_one_first : {A : Type 0} (xs : List A) (i : ℕ) → drop (suc i) xs ≡ drop i (drop 1 xs)
drop_one_first [] i = sym (drop-nil i)
drop_one_first (x ∷ xs) i = refl

-- one more line
runs_one_more : (xs ran : List Line) (line : Line) (sources : List (Option ℕ)) (m mid new : MachineValue)
    (before so_far : List ℕ) (number : ℕ)
    → RunsFront m before sources xs ran mid so_far
    → RunsLine mid (line_after so_far (first_source (drop (length xs) sources)) line) new number
    → RunsFront m before sources (xs ++ line ∷ [])
    (ran ++ line_after so_far (first_source (drop (length xs) sources)) line ∷ []) new (so_far ++ number ∷ [])
runs_one_more [] ran line sources m mid new before so_far number run one =
    (new, number, [], rw (run.0, run.2), rw (run.2, run.1) at one, (refl, refl, rw run.2))
runs_one_more (x ∷ xs) ran line sources m mid new before so_far number run one =
    let places : drop (length (x ∷ xs)) sources ≡ drop (length xs) (drop 1 sources) =
    drop_one_first sources (length xs) in
    let more = runs_one_more xs run.2 line (drop 1 sources) run.0 mid new (before ++ run.1 ∷ []) so_far number
    run.5 (rw places at one) in
    let source = first_source (drop (length xs) (drop 1 sources)) in
    (run.0, run.1, run.2 ++ line_after so_far source line ∷ [], rw (run.3, places), run.4, more)

get_drop : {A : Type 0} (xs : List A) (i : ℕ) → slice_get (drop i xs) 0 ≡ slice_get xs i
get_drop [] zero = refl
get_drop [] (suc i) = refl
get_drop (x ∷ xs) zero = refl
get_drop (x ∷ xs) (suc i) = get_drop xs i

-- one more of the lines is run, with its number in it
pub runs_more : (xs lines : List Line) (i : ℕ) (line new : Line) (sources : List (Option ℕ))
    (m mid next : MachineValue) (before so_far : List ℕ) (number : ℕ)
    → slice_get lines i ≡ Some line → i ≤ length xs → drop i lines ≡ drop i xs
    → new ≡ line_after so_far (first_source (drop i sources)) line
    → RunsFront m before sources (take i xs) (take i lines) mid so_far → RunsLine mid new next number
    → RunsFront m before sources (take (i + 1) xs) (take (i + 1) (set lines i new)) next
    (so_far ++ number ∷ [])
runs_more xs lines i line new sources m mid next before so_far number here le same is run one =
    let all : length (take i xs) ≡ i = length-take-le i xs le in
    let equal : line_after so_far (first_source (drop (length (take i xs)) sources)) line ≡ new =
    rw all (sym is) in
    let there : slice_get xs i ≡ Some line = rw (← get_drop xs i, ← same, get_drop lines i) here in
    let more =
    runs_one_more (take i xs) (take i lines) line sources m mid next before so_far number run
    (rw equal one) in
    rw (take_more_set lines i new (slice_get_within lines i line here), take_one xs i line there)
    (rw equal at more)

-- the lines after it stay
pub later_stay : (xs lines : List Line) (i : ℕ) (new : Line) → drop i lines ≡ drop i xs
    → drop (i + 1) (set lines i new) ≡ drop (i + 1) xs
later_stay xs lines i new same =
    rw (drop-set-lt (i + 1) lines i new (omega arith), ← drop-drop 1 i lines, same, drop-drop 1 i xs)

-- ---- all lines

-- with no line left, it does not matter which sources are left
rest_same : (count front : ℕ) (sources : List (Option ℕ)) (numbers : List ℕ) (lines : List Line)
    → front ≡ min count (length lines)
    → lines_after numbers (drop front sources) (drop front lines)
    ≡ lines_after numbers (drop count sources) (drop count lines)
rest_same count front sources numbers lines is =
    elim (cases_lt count (length lines)) [
      | inl less ↦ (let same : front ≡ count = omega (arith, is) in rw same)
      | inr past ↦ rw (drop_all front lines (omega (arith, is)), drop_all count lines past)
    ]

-- the front was run, and the rest has its numbers
pub numbers_put : (l : LayoutParts) (count front : ℕ) (old lines put : List Line)
    (sources taken : List (Option ℕ)) (bound known : Bound) (numbers : List ℕ) (m : MachineValue)
    → front ≡ min count (length old)
    → RunsFront (booted l) [] sources (take front old) (take front lines) m numbers
    → drop front lines ≡ drop front old
    → put ≡ take front lines ++ lines_after numbers (drop front sources) (drop front lines)
    → taken ≡ sources_after numbers sources → known ≡ numbered numbers bound
    → PutsNumbers l count old sources bound put taken known
numbers_put l count front old lines put sources taken bound known numbers m is runs later made gone named =
    let asked : take front old ≡ take count old = ap (λ (n : ℕ). take n old) is ∙ take_min count old in
    record {
      front = take front lines;
      numbers = numbers;
      last = m;
      runs = rw asked at runs;
      lines_are = made ∙ ap (λ (t : List Line). take front lines ++ t)
          (rw later (rest_same count front sources numbers old is));
      sources_are = gone;
      bound_is = named;
    }
