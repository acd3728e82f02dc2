-- The text of a scenario that runs in order on one machine.
use Rattle.std.specs.Prelude.{◌≡◌, ℕ, List, [], ◌∷◌, ◌++◌, codes, Result, Ok}
use Rattle.hp_units.specs.History.{value_of}
use Rattle.hp_machine.specs.Machine.{MachineValue, booted, sealed}
use Rattle.hp_plain.specs.Image.{Pictured}
use Rattle.hp_scenario.specs.declared.fault.ScenarioFault.{ScenarioFault}
use Rattle.hp_scenario.specs.declared.lines.Line.{Line}
use Rattle.hp_scenario.specs.Asked as asks
use Rattle.hp_scenario.specs.Gives.{◌>>=◌}
use Rattle.hp_scenario.specs.Scenario.{ScenarioValue, scenario_in}
use Rattle.hp_commands.specs.Events.{WritesEvent, event_text, machine_after_event}
use Rattle.hp_commands.specs.Files.{WritesFile, cat_text}
use Rattle.hp_commands.specs.Plans.{WritesPlan, plan_run, plan_text}
use Rattle.hp_commands.specs.Seals.{WritesSeal, seal_text}
use Rattle.hp_text.specs.FileFaults.{write_fault_line}
use Rattle.hp_text.specs.State.{state_text}

-- ---- one line

-- the text of a line's work, and the machine after it
abbrev pub asked_text : MachineValue → (cpu : ℕ) → asks.Meaning → List ℕ
asked_text m cpu (asks.event event) = event_text m cpu event
asked_text m cpu (asks.plan items turns) = plan_text m cpu turns items
asked_text m cpu (asks.not_taken fault) = write_fault_line fault
asked_text m cpu (asks.cat path) = cat_text m path
asked_text m cpu asks.seal = seal_text m

abbrev pub machine_after_asked : MachineValue → (cpu : ℕ) → asks.Meaning → MachineValue
machine_after_asked m cpu (asks.event event) = machine_after_event m cpu event
machine_after_asked m cpu (asks.plan items turns) = (plan_run m cpu turns items).machine
machine_after_asked m cpu (asks.not_taken fault) = m
machine_after_asked m cpu (asks.cat path) = m
machine_after_asked m cpu asks.seal = sealed m

abbrev pub line_text : MachineValue → Line → List ℕ
line_text m line = asked_text m line.cpu (asks.asked_by line.work)

abbrev pub machine_after : MachineValue → Line → MachineValue
machine_after m line = machine_after_asked m line.cpu (asks.asked_by line.work)

-- ---- the whole text

-- the texts of the lines, one after another, and the machine after them
unfoldable pub lines_text : MachineValue → List Line → List ℕ
lines_text m [] = []
lines_text m (line ∷ lines) = line_text m line ++ lines_text (machine_after m line) lines

unfoldable pub machine_after_lines : MachineValue → List Line → MachineValue
machine_after_lines m [] = m
machine_after_lines m (line ∷ lines) = machine_after_lines (machine_after m line) lines

-- the text of the state that a machine's history leads to
abbrev pub end_text : (names : List (List ℕ)) → MachineValue → List ℕ
end_text names m = state_text m.layout names (value_of m.layout m.base m.history)

-- the text of a scenario: those of its lines, then that of the state after them
unfoldable pub scenario_text : ScenarioValue → List ℕ
scenario_text s =
    lines_text (booted s.layout) s.lines ++ end_text s.names (machine_after_lines (booted s.layout) s.lines)

-- the text of the scenario in the bytes, or why there is none
unfoldable pub serial_text : List ℕ → Result (List ℕ) ScenarioFault
serial_text input = scenario_in input >>= λ s. Ok (scenario_text s)

-- no line ends with `OutOfMemory`
unfoldable pub IsWhole : List ℕ → Type 0
IsWhole text = (front rest : List ℕ) → text ≡ front ++ (codes "OutOfMemory" ++ 10 ∷ rest) → ⊥

-- ---- lines as they are run

-- a line's work was done, or the text has the reason why not
abbrev pub WritesAsked : MachineValue → (cpu : ℕ) → asks.Meaning → (text : List ℕ)
    → (new : MachineValue) → Type 0
WritesAsked m cpu (asks.event event) text new = WritesEvent m cpu event text new
WritesAsked m cpu (asks.plan items turns) text new = WritesPlan m cpu turns items text new
WritesAsked m cpu (asks.not_taken fault) text new = (text ≡ write_fault_line fault) × (new ≡ m)
WritesAsked m cpu (asks.cat path) text new = WritesFile m path text × (new ≡ m)
WritesAsked m cpu asks.seal text new = WritesSeal m text new

-- a line was run
abbrev pub WritesLine : MachineValue → Line → (text : List ℕ) → (new : MachineValue) → Type 0
WritesLine m line text new = WritesAsked m line.cpu (asks.asked_by line.work) text new

-- the lines were run one after another: each wrote its text and led to the machine after it
unfoldable pub WritesLines : MachineValue → List Line → (text : List ℕ) → (new : MachineValue) → Type 0
WritesLines m [] text new = (text ≡ []) × (new ≡ m)
WritesLines m (line ∷ lines) text new =
    (written : List ℕ) × (next : MachineValue) × (rest : List ℕ)
    × WritesLine m line written next × (text ≡ written ++ rest) × WritesLines next lines rest new

-- bytes grew by a text of which `P` holds
pub record GrowsBy (old new : List ℕ) (P : List ℕ → Type 0) : Type 0 where
  pub text : List ℕ
  pub grown : new ≡ old ++ text
  pub is : P text

-- the lines were run one after another, and the image has the state after them
abbrev pub LeavesImage : MachineValue → List Line → (text : List ℕ) → Pictured → Type 0
LeavesImage m lines text image =
    (new : MachineValue) × WritesLines m lines text new
    × (image ≡ record { layout = new.layout; memory = new.state })
