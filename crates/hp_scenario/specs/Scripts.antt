-- The lines of a scenario by processor.
use Rattle.std.specs.Prelude.{◌≡◌, ℕ, ◌+◌, ◌<◌, ◌==◌, Bool, true, false, ◌&&◌, not, List, filter, length, map, nat_lt, Option, Some, None, Result, Ok, Err}
use Rattle.std.specs.List.{All, list_all, position, range_with_len}
use Rattle.hp_scenario.specs.Asked.{is_cat}
use Rattle.hp_scenario.specs.Scenario.{ScenarioValue}
use Rattle.hp_scenario.specs.declared.fault.ScenarioFault.{ScenarioFault}
use Rattle.hp_scenario.specs.declared.fault.ScenarioFault.TheVariants.{NotForRun}
use Rattle.hp_scenario.specs.declared.lines.Line.{Line}

-- a line does not read a control file; no line of any script does
abbrev pub IsForRun : Line → Type 0
IsForRun line = is_cat line.work ≡ false

abbrev pub AreForRun : List (List Line) → Type 0
AreForRun scripts = All (λ script. All IsForRun script) scripts

-- a worker may run the line, with `cpus` processors
abbrev pub is_for_run : (cpus : ℕ) → Line → Bool
is_for_run cpus line = nat_lt line.cpu cpus && not (is_cat line.work)

-- the lines of a processor, in order
abbrev pub script_of : List Line → (cpu : ℕ) → List Line
script_of lines cpu = filter (λ line. line.cpu == cpu) lines

-- there are lines, and all are one processor's
abbrev pub AreAllOf : List Line → (cpu : ℕ) → Type 0
AreAllOf lines cpu = (0 < length lines) × (list_all (λ line. line.cpu == cpu) lines ≡ true)

-- the index of the first line that no worker may run
abbrev pub first_unfit : (cpus : ℕ) → List Line → Option ℕ
first_unfit cpus lines = position (λ line. not (is_for_run cpus line)) lines

-- a script per processor, from 0. With an index `at` (of a line that no worker may run), the result is
-- the fault with that line's number, which is counted from 1
abbrev pub scripts_unless : ScenarioValue → Option ℕ → Result (List (List Line)) ScenarioFault
scripts_unless scenario (Some at) = Err (NotForRun (at + 1))
scripts_unless scenario None = Ok (map (script_of scenario.lines) (range_with_len 0 scenario.layout.cpus))

-- the scripts of a scenario, or the first line that no worker may run
unfoldable pub scripts_of : ScenarioValue → Result (List (List Line)) ScenarioFault
scripts_of scenario = scripts_unless scenario (first_unfit scenario.layout.cpus scenario.lines)
