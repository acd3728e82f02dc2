-- A loop over the lines, what is left of them, and the scenario that they make.
use Rattle.std.proofs.Common.{◌≡◌, ℕ, ◌+◌, ◌≤◌, List, [], ◌∷◌, ◌++◌, length, drop, slice_get, Option, Some, None, Result, Ok, Err, sym, ap, ◌∙◌, add-one, option_map, arith}
use Rattle.std.proofs.Math.Seq.{drop-cons}
use Rattle.std.proofs.lemmas.List.{drop_all}
use Rattle.std.proofs.lemmas.Option.{get_or_from_slice_get, slice_get_within}
use Rattle.hp_units.specs.LayoutParts.{LayoutParts, layout_fault}
use Rattle.hp_scenario.specs.declared.lines.Line.{Line}
use Rattle.hp_scenario.specs.declared.fault.ScenarioFault.{ScenarioFault}
use Rattle.hp_scenario.specs.declared.fault.ScenarioFault.TheVariants.{BadLine}
use Rattle.hp_scenario.specs.Names.{Numbered, line_in}
use Rattle.hp_scenario.specs.Scenario.{Script, nothing, lines_from, layout_or, scenario_if, scenario_with}

-- a line, with the names after it
abbrev pub with_names : List (List ℕ) → Line → Numbered
with_names names line = record { names = names; line = line }

-- the first of the texts that are left
text_at : (xs : List (List ℕ)) (i : ℕ) (text : List ℕ) → slice_get xs i ≡ Some text
    → drop i xs ≡ text ∷ drop (i + 1) xs
text_at xs i text at =
    rw (drop-cons xs i text (slice_get_within xs i text at), get_or_from_slice_get xs i text text at)
    (rw (← add-one i))

-- a text that is a line: what is left goes on after it
pub line_goes_on : (xs : List (List ℕ)) (i : ℕ) (text : List ℕ) (script : Script) (o : Option Line)
    (line : Line) (names : List (List ℕ)) (lines : List Line) (total : Result Script ScenarioFault)
    → slice_get xs i ≡ Some text
    → option_map (with_names names) o ≡ line_in script.names text → o ≡ Some line
    → lines ≡ script.lines ++ line ∷ []
    → lines_from (i + 1) script (drop i xs) ≡ total
    → lines_from ((i + 1) + 1) (record { names = names; lines = lines }) (drop (i + 1) xs) ≡ total
unfolding lines_from
line_goes_on xs i text script o line names lines total at h some l so_far = grind (arith, text_at)

-- a text that is no line: the reading ends there
pub line_stops : (xs : List (List ℕ)) (i : ℕ) (text : List ℕ) (script : Script) (o : Option Line)
    (names : List (List ℕ)) (total : Result Script ScenarioFault)
    → slice_get xs i ≡ Some text
    → option_map (with_names names) o ≡ line_in script.names text → o ≡ None
    → lines_from (i + 1) script (drop i xs) ≡ total → total ≡ Err (BadLine (i + 1))
unfolding lines_from
line_stops xs i text script o names total at h none so_far = grind (arith, text_at)

-- no text is left
pub lines_done : (xs : List (List ℕ)) (i : ℕ) (script : Script) (total : Result Script ScenarioFault)
    → length xs ≤ i → lines_from (i + 1) script (drop i xs) ≡ total → total ≡ Ok script
unfolding lines_from
lines_done xs i script total le so_far = sym so_far ∙ ap (lines_from (i + 1) script) (drop_all _ _ le)

-- ---- the whole

-- a scenario of its layout and its lines
pub all_made : (p : Option LayoutParts) (c : Option (List (List ℕ))) (parts : LayoutParts)
    (calls : List (List ℕ)) (layout : LayoutParts) (names : List (List ℕ)) (lines kept : List Line)
    → p ≡ Some parts → c ≡ Some calls → layout_or parts (layout_fault parts) ≡ Ok layout
    → lines_from 1 nothing calls ≡ Ok (record { names = names; lines = lines }) → kept ≡ lines
    → scenario_if p c ≡ Ok (record { layout = layout; names = names; lines = kept })
unfolding scenario_with
all_made p c parts calls layout names lines kept some_parts some_calls sound read same = cc
