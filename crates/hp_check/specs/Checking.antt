-- The promises of `check`: the first fault is the reader's, and each finding has a cause.
use Rattle.std.specs.Prelude.{◌≡◌, ℕ, ◌≤◌, true, List, [], ◌∷◌, count_by, length, Some, None, Result, Ok, Err, is_some}
use Rattle.std.specs.List.{All}
use Rattle.serde_json.specs.Data.{Data}
use Rattle.hp_units.specs.LayoutParts.{LayoutParts, layout_fault}
use Rattle.hp_units.specs.declared.layouts.LayoutFault.{LayoutFault}
use Rattle.hp_units.specs.declared.layouts.LayoutFault.TheVariants.{BadOrder, BadPageblocks, BadBlocks, TooManyFrames, BadCpus, BadMarks, BadOwners, BadPages, BadWords, BadLimit, BadBoot}
use Rattle.hp_scenario.specs.Form.{form_of}
use Rattle.hp_scenario.specs.Scenario.{json_of}
use Rattle.hp_scenario.specs.declared.fault.ScenarioFault.{ScenarioFault}
use Rattle.hp_scenario.specs.declared.fault.ScenarioFault.TheVariants.{NotJson, BadShape, Layout, BadLine}
use Rattle.hp_scripts.specs.Named.{NamedValue, named_in}
use Rattle.hp_check.specs.Calls.{IsBadEntry, entries_in}
use Rattle.hp_check.specs.Findings.{is_fault}
use Rattle.hp_check.specs.Ranges.{parts_in}
use Rattle.hp_check.specs.declared.finding.Finding.{Finding}
use Rattle.hp_check.specs.declared.finding.Finding.TheVariants as finding
use Rattle.hp_check.specs.declared.finding.OutOfRange.{OutOfRange}
use Rattle.hp_check.specs.declared.finding.OutOfRange.TheVariants as range

-- ---- the first fault

-- the layout fault for a part that is out of its range
abbrev pub fault_of : OutOfRange → LayoutFault
fault_of (range.Order n) = BadOrder
fault_of (range.Pageblocks n) = BadPageblocks
fault_of (range.Blocks n) = BadBlocks
fault_of (range.Frames n) = TooManyFrames
fault_of (range.Cpus n) = BadCpus
fault_of (range.Batch batch high) = BadMarks
fault_of (range.High n) = BadMarks
fault_of (range.Owners n) = BadOwners
fault_of (range.Pages n) = BadPages
fault_of (range.Words n) = BadWords
fault_of (range.History n) = BadLimit
fault_of (range.Boot words blocks) = BadBoot

-- the finding reports this fault of reading
abbrev pub IsFindingOf : ScenarioFault → Finding → Type 0
IsFindingOf NotJson (finding.NotJson hint line column) = Unit {0}
IsFindingOf BadShape (finding.Shape s) = Unit {0}
IsFindingOf (Layout fault) (finding.Layout out) = fault ≡ fault_of out
IsFindingOf (BadLine line) (finding.BadCall number text names) = line ≡ number
IsFindingOf fault f = ⊥

-- the first of the findings reports this fault
abbrev pub Begins : ScenarioFault → List Finding → Type 0
Begins fault [] = ⊥
Begins fault (f ∷ fs) = IsFindingOf fault f

-- either the text is a scenario and no finding is a fault, or the first finding reports the fault
-- of reading it
abbrev pub Agrees : Result NamedValue ScenarioFault → List Finding → Type 0
Agrees (Ok scenario) found = count_by is_fault found ≡ 0
Agrees (Err fault) found = Begins fault found × (1 ≤ count_by is_fault found)

-- ---- causes

-- the text is JSON, and P holds of its value
abbrev pub IsJsonWith : (P : Data → Type 0) → (input : List ℕ) → Type 0
IsJsonWith P input = (d : Data) × (json_of input ≡ Some d) × P d

-- the layout's parts can be read, and one is out of its range
abbrev pub IsPastLimits : Data → Type 0
IsPastLimits d = (l : LayoutParts) × (parts_in d ≡ Some l) × (is_some (layout_fault l) ≡ true)

-- the text is a scenario, and P holds of its number of lines
abbrev pub IsScenarioWith : (P : ℕ → Type 0) → (input : List ℕ) → Type 0
IsScenarioWith P input = (s : NamedValue) × (named_in input ≡ Ok s) × P (length s.scenario.lines)

-- the cause of a finding. Either the text is not JSON, or its value does not have the form of a
-- scenario, or its layout is past its limits. Or the entry of `calls` with this number is this
-- text, which cannot be read as a line. Only a scenario has warnings, each about a key or about one
-- of its lines
abbrev pub HasCause : (input : List ℕ) → Finding → Type 0
HasCause input (finding.NotJson hint line column) = json_of input ≡ None
HasCause input (finding.Shape s) = IsJsonWith (λ d. form_of d ≡ None) input
HasCause input (finding.Layout out) = IsJsonWith IsPastLimits input
HasCause input (finding.BadCall number text names) =
    IsJsonWith (λ d. IsBadEntry (entries_in d) number text) input
HasCause input (finding.Repeat place k) = IsScenarioWith (λ lines. Unit {0}) input
HasCause input (finding.Warning number w) =
    IsScenarioWith (λ lines. (1 ≤ number) × (number ≤ lines)) input

-- each finding has a cause
abbrev pub HaveCauses : (input : List ℕ) → List Finding → Type 0
HaveCauses input found = All (HasCause input) found
