-- What a check writes, and its exit status.
use Rattle.std.specs.Prelude.{◌≡◌, ℕ, ◌-◌, ◌^◌, ◌==◌, Bool, true, false, List, [], ◌++◌, Result, Ok, Err}
use Rattle.hp_scripts.specs.Named.{NamedValue, named_in}
use Rattle.hp_scenario.specs.declared.fault.ScenarioFault.{ScenarioFault}
use Rattle.hp_scripts.specs.Counting.{IsCountTold}

-- the most interleavings that are counted
abbrev pub usual_limit : ℕ
usual_limit = 2 ^ 64 - 1

-- the line that reports how many interleavings the scripts after the setup have; empty if the bytes are
-- not a scenario, or if a line after the setup may not be in a script
abbrev pub IsCountIn : (setup : ℕ) → Result NamedValue ScenarioFault → (text : List ℕ) → Type 0
IsCountIn setup (Ok s) text = IsCountTold s.scenario.layout.cpus setup s.scenario.lines usual_limit text
IsCountIn setup (Err fault) text = text ≡ []

-- the line that reports how many interleavings the scripts after the setup have; empty if `all`
-- is true (all lines are the setup), if the bytes are not a scenario, or if a line after the
-- setup may not be in a script
abbrev pub IsCountOf : (all : Bool) → (setup : ℕ) → (input text : List ℕ) → Type 0
IsCountOf true setup input text = text ≡ []
IsCountOf false setup input text = IsCountIn setup (named_in input) text

-- the exit status: 0 if the bytes are a scenario, and otherwise 1
abbrev pub status_of : Result NamedValue ScenarioFault → ℕ
status_of (Ok s) = 0
status_of (Err fault) = 1

-- the text ends with the line that counts the interleavings; `reported` before it may be any text.
-- The status is that of the bytes
pub record IsCheckOf (setup : ℕ) (input text : List ℕ) (status : ℕ) : Type 0 where
  pub reported : List ℕ
  pub counted : List ℕ
  pub count : IsCountOf (setup == 2 ^ 64 - 1) setup input counted
  pub is : text ≡ reported ++ counted
  pub judged : status ≡ status_of (named_in input)
