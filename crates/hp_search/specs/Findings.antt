-- The promises of a search for an end, and the cause of each fault.
use Rattle.std.specs.Prelude.{◌≡◌, ℕ, List}
use Rattle.hp_schedules.specs.Schedules.{Setting}
use Rattle.hp_explore.specs.declared.exploring.ExploreFault.{ExploreFault}
use Rattle.hp_explore.specs.Faults.{FillsHistory}
use Rattle.hp_explore.specs.FindFaults.{IsFindCause, find_fault_from}
use Rattle.hp_explore.specs.Reaching.{HasRoomAlong, IsNearest, Reaches}
use Rattle.hp_explore.specs.declared.finding.Found.{Found as Sought}
use Rattle.hp_explore.specs.declared.finding.Found.TheVariants as sought
use Rattle.hp_questions.specs.Limits.{AreWithin, IsFirstPast}
use Rattle.hp_questions.specs.declared.wanted.Wanted.{Wanted}
use Rattle.hp_scenario.specs.declared.lines.Line.{Line}
use Rattle.hp_search.specs.declared.forms.ScheduleForm.{ScheduleForm}
use Rattle.hp_search.specs.declared.found.FindResult.{FindResult}
use Rattle.hp_search.specs.declared.found.FindResult.TheVariants.{Absent, Found, Unknown}
use Rattle.hp_search.specs.declared.lab_fault.LabFault.{LabFault}
use Rattle.hp_search.specs.declared.lab_fault.LabFault.TheVariants.{PastLayout}
use Rattle.hp_search.specs.Faults.{IsFaultWith}
use Rattle.hp_search.specs.Holding.{HoldsAfter, HoldsIn, InScenario}
use Rattle.hp_search.specs.FoundTexts.{absent_told, found_text, unknown_told}

-- ---- scripts on a machine

-- the text and the result report what was found: either a schedule, or that no schedule ends as wanted
abbrev pub IsFoundTold : ScheduleForm → (names : List (List ℕ)) → (before : List Line) → Setting → Sought
    → (text : List ℕ) → FindResult → Type 0
IsFoundTold form names before g (sought.Nearest schedule) text result =
    (text ≡ found_text form names before g schedule.items) × (result ≡ Found)
IsFoundTold form names before g sought.Absent text result = (text ≡ absent_told form) × (result ≡ Absent)

-- the text reports the first of the schedules that end as wanted with the fewest changes of processor,
-- or that no schedule ends as wanted, or that this is not known. In the first case the history has room
-- for all calls of the schedule, and in the second for all calls of all schedules. No wanted line names
-- anything past the layout
abbrev pub IsFoundOn : ScheduleForm → (names : List (List ℕ)) → (before : List Line) → Setting
    → List Wanted → (text : List ℕ) → FindResult → Type 0
IsFoundOn form names before g wanted text Found =
    (schedule : List ℕ) × AreWithin g.layout wanted × IsNearest g wanted schedule × HasRoomAlong g schedule
    × (text ≡ found_text form names before g schedule)
IsFoundOn form names before g wanted text Absent =
    AreWithin g.layout wanted × ((s : List ℕ) → Reaches g wanted s → ⊥) × (FillsHistory g → ⊥)
    × (text ≡ absent_told form)
IsFoundOn form names before g wanted text Unknown =
    AreWithin g.layout wanted × (text ≡ unknown_told form)

-- ---- a scenario

-- the text reports a search in the scenario's scripts
abbrev pub IsFindingOf : ScheduleForm → (input : List ℕ) → (setup : ℕ) → List Wanted → (text : List ℕ)
    → FindResult → Type 0
IsFindingOf form input setup wanted text result =
    HoldsIn (λ names before g. IsFoundOn form names before g wanted text result) input setup

-- line `number` is the first wanted line that names something past the layout
abbrev pub IsPastLayout : List Wanted → (number : ℕ) → Setting → Type 0
IsPastLayout wanted number g = IsFirstPast g.layout wanted number

-- the cause of a fault of a search for an end. No wanted line names anything past the layout
abbrev pub IsSearchCause : List Wanted → Setting → ExploreFault → Type 0
IsSearchCause wanted g fault = AreWithin g.layout wanted × IsFindCause g wanted (find_fault_from fault)

-- the cause of each fault of a search for an end. `HistoryFull` comes only from a call that the
-- search makes
abbrev pub IsFindFaultOf : (input : List ℕ) → (setup : ℕ) → List Wanted → LabFault → Type 0
IsFindFaultOf input setup wanted (PastLayout number) =
    InScenario input setup (HoldsAfter (IsPastLayout wanted number) setup)
IsFindFaultOf input setup wanted fault = IsFaultWith (IsSearchCause wanted) input setup fault
