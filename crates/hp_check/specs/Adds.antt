-- Findings that are added to others, and the fault that the first of them reports.
use Rattle.std.specs.Prelude.{◌≡◌, ℕ, ◌+◌, ◌≤◌, Bool, true, false, List, [], ◌∷◌, ◌++◌, Option, Some, None, Result, Ok, Err}
use Rattle.std.specs.List.{All}
use Rattle.std.specs.Option.{option_map, option_or}
use Rattle.serde_json.specs.Data.{Data}
use Rattle.hp_units.specs.LayoutParts.{LayoutParts, layout_fault}
use Rattle.hp_scenario.specs.Form.{form_of}
use Rattle.hp_scenario.specs.declared.fault.ScenarioFault.{ScenarioFault}
use Rattle.hp_scenario.specs.declared.fault.ScenarioFault.TheVariants.{BadShape, Layout}
use Rattle.hp_check.specs.Calls.{IsBadEntry, entries_in}
use Rattle.hp_check.specs.Checking.{Begins, IsPastLimits, fault_of}
use Rattle.hp_check.specs.declared.finding.Finding.{Finding}
use Rattle.hp_check.specs.declared.finding.Finding.TheVariants as finding
use Rattle.hp_check.specs.declared.finding.OutOfRange.{OutOfRange}

-- the first of the added findings reports this fault; without a fault, no finding is added
abbrev pub IsFirst : Option ScenarioFault → List Finding → Type 0
IsFirst None added = added ≡ []
IsFirst (Some fault) added = Begins fault added

-- findings with the property P were added, and the first of them reports the fault; without a
-- fault, none were added
pub record Adds (P : Finding → Type 0) (fault : Option ScenarioFault) (old new : List Finding) : Type 0 where
  pub added : List Finding
  pub is : new ≡ old ++ added
  pub each : All P added
  pub first : IsFirst fault added

-- the first fault of a list whose items are numbered from `number`
abbrev pub first_at : {X : Type 0} → (ℕ → X → Option ScenarioFault) → ℕ → List X → Option ScenarioFault
first_at f number [] = None
first_at f number (x ∷ xs) = option_or (f number x) (first_at f (number + 1) xs)

-- the fault BadShape, unless the condition holds
abbrev pub lacks : Bool → Option ScenarioFault
lacks true = None
lacks false = Some BadShape

-- the layout fault of a part that is out of its range; None if no part is
abbrev pub out_fault : (number : ℕ) → Option OutOfRange → Option ScenarioFault
out_fault number None = None
out_fault number (Some out) = Some (Layout (fault_of out))

-- the fault of a layout that is past its limits; None within them
abbrev pub limit_fault : LayoutParts → Option ScenarioFault
limit_fault l = option_map Layout (layout_fault l)

-- the fault of a layout that is past its limits; None within them, or if the layout's parts cannot
-- be read
abbrev pub limit_fault_of : Option LayoutParts → Option ScenarioFault
limit_fault_of None = None
limit_fault_of (Some l) = limit_fault l

-- the fault of reading; None if reading succeeded
abbrev pub fault_in : {A : Type 0} → Result A ScenarioFault → Option ScenarioFault
fault_in (Ok x) = None
fault_in (Err fault) = Some fault

-- ---- kinds of findings

-- the finding is that the text is not JSON
abbrev pub IsNotJson : Finding → Type 0
IsNotJson (finding.NotJson hint line column) = Unit {0}
IsNotJson f = ⊥

-- the finding is about the shape of a value
abbrev pub IsShape : Finding → Type 0
IsShape (finding.Shape s) = Unit {0}
IsShape f = ⊥

-- the finding is about a part of the layout
abbrev pub IsLayout : Finding → Type 0
IsLayout (finding.Layout out) = Unit {0}
IsLayout f = ⊥

-- the finding is about a repeated key
abbrev pub IsRepeat : Finding → Type 0
IsRepeat (finding.Repeat place k) = Unit {0}
IsRepeat f = ⊥

-- the finding is a warning, either about a key or about one of the first `lines` lines
abbrev pub IsWarning : (lines : ℕ) → Finding → Type 0
IsWarning lines (finding.Repeat place k) = Unit {0}
IsWarning lines (finding.Warning number w) = (1 ≤ number) × (number ≤ lines)
IsWarning lines f = ⊥

-- what causes a finding about a JSON value. Either the value does not have the form of a scenario,
-- or its layout is past its limits. Or the entry of `calls` with this number is this text, which
-- cannot be read as a line
abbrev pub ValueCause : Data → Finding → Type 0
ValueCause d (finding.Shape s) = form_of d ≡ None
ValueCause d (finding.Layout out) = IsPastLimits d
ValueCause d (finding.BadCall number text names) = IsBadEntry (entries_in d) number text
ValueCause d f = ⊥
