-- What a command needs of a scenario, and what is worth a warning.
use Rattle.std.specs.Prelude.{◌≡◌, ℕ, ◌-◌, ◌^◌, ◌<◌, ◌==◌, Bool, true, List, [], Option, Some, None, Result, nat_le, if◌then◌else◌}
use Rattle.hp_scripts.specs.Named.{NamedValue, named_in}
use Rattle.hp_scenario.specs.declared.fault.ScenarioFault.{ScenarioFault}
use Rattle.hp_scripts.specs.declared.unbegun.Unbegun.{Unbegun}
use Rattle.hp_trace.specs.declared.view.View.{View}
use Rattle.hp_lab_shell.specs.Scripts.{count_of, unbegun_in}
use Rattle.hp_search.specs.declared.lab_fault.LabFault.TheVariants.{OutOfMemory}
use Rattle.hp_search.specs.declared.program_fault.LabProgramFault.{LabProgramFault}
use Rattle.hp_search.specs.declared.program_fault.LabProgramFault.TheVariants.{Lab, PastEnd}
use Rattle.hp_lab_shell.specs.declared.words.Word.{Word}
use Rattle.hp_lab_shell.specs.declared.words.Word.TheVariants.{Check, Explore, Find, Log, Never, Part, Picture, Sum, Told, Trace}

-- of the scripts that a command searches, per processor the first line that works on operation 0
-- although the processor has begun none
abbrev pub unbegun_of : Word → Result NamedValue ScenarioFault → List Unbegun
unbegun_of (Check setup) read = []
unbegun_of (Explore asked form by jobs) read = unbegun_in asked.setup read
unbegun_of (Part asked part) read = unbegun_in asked.setup read
unbegun_of (Sum form) read = []
unbegun_of (Find setup wanted form jobs) read = unbegun_in setup read
unbegun_of (Never setup wanted form jobs) read = unbegun_in setup read
unbegun_of (Trace view) read = []
unbegun_of (Picture drawing) read = []
unbegun_of Log read = []
unbegun_of (Told form) read = []

-- the first line that is shown; 0 if that is the first of all
abbrev pub first_shown : View → ℕ
first_shown view = if nat_le view.from 1 then 0 else view.from

-- the last setup line that a check needs; 0 if `setup` is 2^64 - 1, which means the whole scenario
abbrev pub setup_named : (setup : ℕ) → ℕ
setup_named setup = if setup == 2 ^ 64 - 1 then 0 else setup

-- the last line, counted from 1, that a command needs of a scenario; 0 if it needs none
abbrev pub last_named : Word → ℕ
last_named (Check setup) = setup_named setup
last_named (Explore asked form by jobs) = asked.setup
last_named (Part asked part) = asked.setup
last_named (Sum form) = 0
last_named (Find setup wanted form jobs) = setup
last_named (Never setup wanted form jobs) = setup
last_named (Trace view) = first_shown view
last_named (Picture drawing) = first_shown drawing.view
last_named Log = 0
last_named (Told form) = 0

-- line `asked` is one of `count` lines; true if their number is not known
abbrev pub has_line : (asked : ℕ) → (count : Option ℕ) → Bool
has_line asked None = true
has_line asked (Some lines) = nat_le asked lines

-- if the bytes are a scenario, it has the line that the command names
abbrev pub HasLines : Word → (input : List ℕ) → Type 0
HasLines word input = has_line (last_named word) (count_of (named_in input)) ≡ true

-- the scenario has `lines` lines, and the command names a later one
abbrev pub IsPastEnd : Word → (input : List ℕ) → (asked lines : ℕ) → Type 0
IsPastEnd word input asked lines =
    (asked ≡ last_named word) × (count_of (named_in input) ≡ Some lines) × (lines < asked)

-- the fault reports that line `asked` is past the last of `count` lines
abbrev pub IsPast : (asked : ℕ) → (count : Option ℕ) → LabProgramFault → Type 0
IsPast asked count (PastEnd number lines) = (number ≡ asked) × (count ≡ Some lines) × (lines < asked)
IsPast asked count fault = ⊥

-- the fault of a command for which the scenario is too short; or memory ran out
abbrev pub IsLineFault : Word → (input : List ℕ) → LabProgramFault → Type 0
IsLineFault word input (Lab fault) = fault ≡ OutOfMemory
IsLineFault word input (PastEnd asked lines) = IsPastEnd word input asked lines
IsLineFault word input fault = ⊥
