-- What a line is, by the value that its text is.
use Rattle.std.proofs.Common.{◌≡◌, ℕ, List, Option, Some, None, Ok, Err, codes, refl, arith}
use Rattle.serde_json.specs.Data.{Data}
use Rattle.hp_scenario.specs.Form.{number_at}
use Rattle.hp_scenario.specs.Gives.{or_fault}
use Rattle.hp_scenario.specs.Scenario.{json_of}
use Rattle.hp_scenario.specs.declared.fault.ScenarioFault.{ScenarioFault}
use Rattle.hp_parts.specs.Heads.{head_from, head_with}
use Rattle.hp_parts.specs.Reading.{IsLine, IsLineOf, narrow, text_at}
use Rattle.hp_parts.specs.declared.reading.PartLine.{PartLine}
use Rattle.hp_parts.specs.declared.reading.PartLine.TheVariants.{Other}

-- the text is a value, or it is none
pub in_value : (text : List ℕ) (d : Data) (line : PartLine) → Some d ≡ json_of text → IsLineOf d line
    → IsLine text line
in_value text d line is h = rw (← is) h

pub in_none : (text : List ℕ) → None ≡ json_of text → IsLine text Other
in_none text is = rw (← is) tt

-- what is given, or a fault
pub none_of : {A : Type 0} (fault : ScenarioFault) (o : Option A) → or_fault fault o ≡ Err fault → None ≡ o
none_of fault o is = grind arith

pub some_of : {A : Type 0} (fault : ScenarioFault) (o : Option A) (x : A) → or_fault fault o ≡ Ok x
    → Some x ≡ o
some_of fault o x is = grind arith

-- the head that a value with all its keys is
pub head_read : (d : Data) (number of wide calls setup ends : ℕ) (scenario : List ℕ)
    → Some number ≡ number_at (codes "part") d → Some of ≡ number_at (codes "of") d
    → Some wide ≡ number_at (codes "calls") d → Some calls ≡ narrow wide
    → Some setup ≡ number_at (codes "setup") d → Some ends ≡ number_at (codes "ends") d
    → Some scenario ≡ text_at (codes "scenario") d
    → head_with number of calls setup ends scenario ≡ head_from d
unfolding head_from
head_read d number of wide calls setup ends scenario at_number at_of at_wide at_calls at_setup at_ends text =
    rw (← at_number, ← at_of, ← at_wide, ← at_calls, ← at_setup, ← at_ends, ← text) refl
