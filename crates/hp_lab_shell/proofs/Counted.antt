-- How many interleavings the scripts of a check have.
use Rattle.std.proofs.Common.{◌≡◌, ◌==◌, ◌-◌, ◌^◌, ℕ, Bool, true, false, List, [], Result, Ok, Err, IfOk, OnOk, refl}
use Rattle.std.proofs.lemmas.Bool.{eq-eqb, eqb-true}
use Rattle.hp_scripts.specs.Counting.{IsCountTold}
use Rattle.hp_scenario.specs.Gives.{Fails}
use Rattle.hp_scripts.specs.Named.{NamedValue, named_in}
use Rattle.hp_scenario.specs.declared.fault.ScenarioFault.{ScenarioFault}
use Rattle.hp_scenario.specs.declared.fault.ScenarioFault.TheVariants.{OutOfMemory}
use Rattle.hp_scenario.specs.declared.lines.Line.{Line}
use Rattle.hp_lab_shell.specs.Checks.{IsCountIn, IsCountOf, usual_limit}

-- all lines are the setup
pub none_asked : (setup : ℕ) (input text : List ℕ) → setup ≡ 2 ^ 64 - 1 → text ≡ []
    → IsCountOf (setup == 2 ^ 64 - 1) setup input text
none_asked setup input text all none = rw (eq-eqb setup (2 ^ 64 - 1) all) none

-- or not
pub some_asked : (setup : ℕ) (input text : List ℕ) → (setup ≡ 2 ^ 64 - 1 → ⊥)
    → IsCountIn setup (named_in input) text → IsCountOf (setup == 2 ^ 64 - 1) setup input text
some_asked setup input text other h = by_test (setup == 2 ^ 64 - 1) refl
  where
    by_test : (b : Bool) → (setup == 2 ^ 64 - 1) ≡ b → IsCountOf b setup input text
    by_test true is = absurd (other (eqb-true setup (2 ^ 64 - 1) is))
    by_test false is = h

-- the bytes are a scenario
pub read_count : (setup cpus : ℕ) (input text : List ℕ) (s : NamedValue) (lines : List Line)
    → named_in input ≡ Ok s → cpus ≡ s.scenario.layout.cpus → lines ≡ s.scenario.lines
    → IsCountTold cpus setup lines usual_limit text → IsCountIn setup (named_in input) text
read_count setup cpus input text s lines read are is h =
    rw (read, ← are, ← is) h

-- or they are none
pub unread_count : (setup : ℕ) (input text : List ℕ) (fault : ScenarioFault) → Fails fault (named_in input)
    → (fault ≡ OutOfMemory → ⊥) → text ≡ [] → IsCountIn setup (named_in input) text
unread_count setup input text OutOfMemory fails some none = absurd (some refl)
unread_count setup input text fault fails some none = rw fails none

pub counted_none : {T E : Type 0} (bytes : T → List ℕ) (result : Result T E) (setup : ℕ) (input : List ℕ)
    (fault : ScenarioFault)
    → Fails fault (named_in input) → IfOk result (λ text. bytes text ≡ [])
    → OnOk result (fault ≡ OutOfMemory → ⊥)
    → IfOk result (λ text. IsCountIn setup (named_in input) (bytes text))
counted_none bytes (Ok text) setup input fault fails none some =
    unread_count setup input (bytes text) fault fails some none
counted_none bytes (Err e) setup input fault fails none some = tt
