-- Why a scenario is not shown.
use Rattle.std.specs.Prelude.{◌≡◌, ℕ, List}
use Rattle.hp_scenario.specs.Gives.{Fails}
use Rattle.hp_scripts.specs.Named.{named_in}
use Rattle.hp_search.specs.declared.lab_fault.LabFault.TheVariants.{OutOfMemory}
use Rattle.hp_search.specs.declared.program_fault.LabProgramFault.{LabProgramFault}
use Rattle.hp_search.specs.declared.program_fault.LabProgramFault.TheVariants.{Lab, Scenario}

-- the bytes are not a scenario, for this reason; or memory ran out
abbrev pub IsUnread : (input : List ℕ) → LabProgramFault → Type 0
IsUnread input (Lab fault) = fault ≡ OutOfMemory
IsUnread input (Scenario fault) = Fails fault (named_in input)
IsUnread input fault = ⊥
