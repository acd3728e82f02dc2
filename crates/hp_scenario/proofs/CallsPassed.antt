-- Lines that were taken one after another are those of the scenario.
use Rattle.std.proofs.Common.{◌≡◌, ℕ, ◌<◌, List, [], ◌∷◌, ◌++◌, length, Ok, refl, ap, ◌∙◌, arith}
use Rattle.json.specs.Token.{Token}
use Rattle.hp_scenario.specs.Calls.{AreAll, Ends, HasPassed, IsOpened, Passes}
use Rattle.hp_scenario.specs.Scenario.{Script, lines_from, scenario_in}
use Rattle.hp_scenario.specs.Usual.{strings_then}
use Rattle.hp_scenario.specs.declared.calls.Calls.{Calls}
use Rattle.hp_scenario.specs.declared.lines.Line.{Line}
use Rattle.hp_scenario.proofs.UsualForm.{one_more_line, one_more_string, scenario_is, scenario_read}

-- no line yet
pub none_passed : (calls : Calls) → HasPassed calls [] calls
unfolding lines_from
none_passed calls = ([], refl, refl, refl)

-- one more line
pub one_passed : (start now next : Calls) (lines : List Line) (line : Line) → HasPassed start lines now
    → Passes now line next → HasPassed start (lines ++ line ∷ []) next
one_passed start now next lines line h one =
    let script : Script = record { names = now.names.keys; lines = lines } in (
      h.0 ++ one.0 ∷ [],
      h.1 ∙ ap (strings_then h.0) one.1 ∙ one_more_string h.0 one.0 next.reader,
      one_more_line _ _ _ _ _ _ h.2 one.2,
      one.3 ∙ h.3,
    )

-- a line takes a token
pub passes_shorter : (now next : Calls) (line : Line) → Passes now line next
    → length next.reader < length now.reader
passes_shorter now next line one = omega (arith, ap (λ (ts : List Token). length ts) one.1)

-- all lines are those of the scenario
all_read : (bytes : List ℕ) (start new : Calls) (lines : List Line) → IsOpened bytes start
    → AreAll start lines new
    → scenario_in bytes ≡ Ok (record { layout = new.layout; names = new.names.keys; lines = lines })
all_read bytes start new lines opened all =
    let last = all.0 in
    let passed : HasPassed start lines last = all.1 in
    let over : Ends last new = all.2 in
    let b = opened.1.0 in
    let f = start.reader in
    let script : Script = record { names = new.names.keys; lines = lines } in
    let read : lines_from 1 (record { names = start.names.keys; lines = [] }) passed.0 ≡ Ok script = cc in
    let whole = scenario_read _ _ _ _ _ _ _ _ opened.1.1 refl opened.1.2 refl (
      passed.0,
      (passed.1 ∙ ap
          (strings_then passed.0) over.0),
      (rw opened.2 at read),
    ) refl in
    scenario_is _ _ _ opened.0 refl (rw (over.2 ∙ passed.3) whole)

-- and so are the same lines as they are kept
pub with_all : (bytes : List ℕ) (start new : Calls) (lines kept : List Line) → IsOpened bytes start
    → AreAll start lines new → kept ≡ lines
    → scenario_in bytes ≡ Ok (record { layout = new.layout; names = new.names.keys; lines = kept })
with_all bytes start new lines kept opened all is = rw is (all_read bytes start new lines opened all)
