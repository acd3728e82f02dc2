-- The text and the exit status of each command, and when each fault comes.
use Rattle.std.specs.Prelude.{◌≡◌, ◌⊎◌, ℕ, ◌<◌, ◌≤◌, Bool, List, length, Option, IfSome, if◌then◌else◌}
use Rattle.std.specs.Io.KnownBytes.{Appends}
use Rattle.hp_questions.specs.declared.wanted.Wanted.{Wanted}
use Rattle.hp_parts.specs.Explorations.{IsExplorationOf, IsFaultWithin}
use Rattle.hp_search.specs.Findings.{IsFindFaultOf, IsFindingOf}
use Rattle.hp_search.specs.Faults.{IsFaultOf}
use Rattle.hp_schedules.specs.PartNumbers.{NumberValue}
use Rattle.hp_search.specs.declared.forms.EndsForm.{EndsForm}
use Rattle.hp_search.specs.declared.forms.ScheduleForm.{ScheduleForm}
use Rattle.hp_scenario.specs.Gives.{Fails}
use Rattle.hp_scripts.specs.Named.{named_in}
use Rattle.hp_scenario.specs.declared.fault.ScenarioFault.{ScenarioFault}
use Rattle.hp_streams.specs.Reading.{limit}
use Rattle.hp_parts.specs.Faults.{IsSumFault}
use Rattle.hp_parts.specs.Parts.{IsFullPart, IsPartOf}
use Rattle.hp_parts.specs.Sums.{IsSumOf}
use Rattle.hp_lab_shell.specs.Checks.{IsCheckOf}
use Rattle.hp_lab_shell.specs.Shown.{HasJson, HasLog, HasRows, HasTrace}
use Rattle.hp_search.specs.declared.found.FindResult.{FindResult}
use Rattle.hp_search.specs.declared.found.FindResult.TheVariants.{Absent, Found, Unknown}
use Rattle.hp_search.specs.declared.groups.GroupBy.{GroupBy}
use Rattle.hp_search.specs.declared.lab_fault.LabFault.{LabFault}
use Rattle.hp_search.specs.declared.lab_fault.LabFault.TheVariants.{OutOfMemory}
use Rattle.hp_search.specs.declared.part_fault.PartFault.{PartFault}
use Rattle.hp_search.specs.declared.program_fault.LabProgramFault.{LabProgramFault}
use Rattle.hp_search.specs.declared.program_fault.LabProgramFault.TheVariants.{Lab, NotOpened, Parts, PastEnd, ReadFailed, Scenario, TooLong, WriteFailed}
use Rattle.hp_lab_shell.specs.declared.words.ExploreOptions.{ExploreOptions}
use Rattle.hp_lab_shell.specs.declared.words.Word.{Word}
use Rattle.hp_lab_shell.specs.declared.words.Word.TheVariants.{Check, Explore, Find, Log, Never, Part, Picture, Sum, Told, Trace}
use Rattle.hp_lab_shell.specs.Needs.{HasLines, IsPastEnd}

-- the text and the exit status of an exploration, whatever ended it. For the form Scenario, the status
-- is 0 if there is an end with that number. For any other form, it is 0 if all interleavings were
-- counted. Otherwise it is 3
abbrev pub IsExploringOf : ExploreOptions → EndsForm → Option GroupBy → (input text : List ℕ)
    → (status : ℕ) → Type 0
IsExploringOf asked form by input text status =
    (found : Bool) × IsExplorationOf form by input asked.setup asked.limit (Unit {0}) text found
    × (status ≡ (if found then 0 else 3))

-- the text and the exit status of the exploration of one part
abbrev pub IsPartialOf : ExploreOptions → NumberValue → (input text : List ℕ) → (status : ℕ) → Type 0
IsPartialOf asked part input text status =
    (found : Bool) × IsPartOf part input asked.setup asked.limit (Unit {0}) text found
    × (status ≡ (if found then 0 else 3))

-- the text of all parts added up, and the exit status
abbrev pub IsAddedOf : EndsForm → (input text : List ℕ) → (status : ℕ) → Type 0
IsAddedOf form input text status =
    (found : Bool) × IsSumOf form input text found × (status ≡ (if found then 0 else 3))

-- the exit status of a search: `found_status` if it found an interleaving, `absent_status` if there is
-- none, and 3 if that is not known
abbrev pub find_status : FindResult → (found_status absent_status : ℕ) → ℕ
find_status Found found_status absent_status = found_status
find_status Absent found_status absent_status = absent_status
find_status Unknown found_status absent_status = 3

-- the text and the exit status of a search
abbrev pub IsSearchOf : (setup : ℕ) → List Wanted → ScheduleForm → (found_status absent_status : ℕ)
    → (input text : List ℕ) → (status : ℕ) → Type 0
IsSearchOf setup wanted form found_status absent_status input text status =
    (result : FindResult) × IsFindingOf form input setup wanted text result
    × (status ≡ find_status result found_status absent_status)

-- the text and the exit status of each command. For a picture or a log, nothing is stated about the text
abbrev pub IsAnswerOf : Word → (input text : List ℕ) → (status : ℕ) → Type 0
IsAnswerOf (Check setup) input text status = IsCheckOf setup input text status
IsAnswerOf (Explore asked form by jobs) input text status = IsExploringOf asked form by input text status
IsAnswerOf (Part asked part) input text status = IsPartialOf asked part.now input text status
IsAnswerOf (Sum form) input text status = IsAddedOf form input text status
IsAnswerOf (Find setup wanted form jobs) input text status =
    IsSearchOf setup wanted.now form 0 3 input text status
IsAnswerOf (Never setup wanted form jobs) input text status =
    IsSearchOf setup wanted.now form 3 0 input text status
IsAnswerOf (Trace view) input text status = HasTrace view input text × (status ≡ 0)
IsAnswerOf (Picture drawing) input text status = HasRows drawing.view input × (status ≡ 0)
IsAnswerOf Log input text status = HasLog input × (status ≡ 0)
IsAnswerOf (Told form) input text status = HasJson form input text × (status ≡ 0)

-- the text and the status of a command, on a scenario that has the lines that the command names
abbrev pub Answers : Word → (input text : List ℕ) → (status : ℕ) → Type 0
Answers word input text status = HasLines word input × IsAnswerOf word input text status

-- when a command fails with this LabFault. Explorations, parts of them and searches have their own
-- causes; any other command fails only if memory runs out
abbrev pub IsLabCause : Word → (input : List ℕ) → LabFault → Type 0
IsLabCause (Check setup) input fault = fault ≡ OutOfMemory
IsLabCause (Explore asked form by jobs) input fault = IsFaultWithin input asked.setup asked.limit fault
IsLabCause (Part asked part) input fault =
    IsFaultOf input asked.setup fault × IsFullPart part.now input asked.setup asked.limit fault
IsLabCause (Sum form) input fault = fault ≡ OutOfMemory
IsLabCause (Find setup wanted form jobs) input fault = IsFindFaultOf input setup wanted.now fault
IsLabCause (Never setup wanted form jobs) input fault = IsFindFaultOf input setup wanted.now fault
IsLabCause (Trace view) input fault = fault ≡ OutOfMemory
IsLabCause (Picture drawing) input fault = fault ≡ OutOfMemory
IsLabCause Log input fault = fault ≡ OutOfMemory
IsLabCause (Told form) input fault = fault ≡ OutOfMemory

-- when a command fails with this ScenarioFault. Only the commands that show a scenario do. Explorations
-- and searches have a LabFault instead, and a check reports what is wrong in its text
abbrev pub IsScenarioCause : Word → (input : List ℕ) → ScenarioFault → Type 0
IsScenarioCause (Check setup) input fault = ⊥
IsScenarioCause (Explore asked form by jobs) input fault = ⊥
IsScenarioCause (Part asked part) input fault = ⊥
IsScenarioCause (Sum form) input fault = ⊥
IsScenarioCause (Find setup wanted form jobs) input fault = ⊥
IsScenarioCause (Never setup wanted form jobs) input fault = ⊥
IsScenarioCause (Trace view) input fault = Fails fault (named_in input)
IsScenarioCause (Picture drawing) input fault = Fails fault (named_in input)
IsScenarioCause Log input fault = Fails fault (named_in input)
IsScenarioCause (Told form) input fault = Fails fault (named_in input)

-- why parts cannot be added up
abbrev pub IsPartCause : Word → (input : List ℕ) → PartFault → Type 0
IsPartCause (Sum form) input fault = IsSumFault input fault
IsPartCause word input fault = ⊥

abbrev pub IsUnanswered : Word → (input : List ℕ) → LabProgramFault → Type 0
IsUnanswered word input NotOpened = ⊥
IsUnanswered word input ReadFailed = ⊥
IsUnanswered word input TooLong = ⊥
IsUnanswered word input (Lab fault) = IsLabCause word input fault
IsUnanswered word input (Parts fault) = IsPartCause word input fault
IsUnanswered word input (Scenario fault) = IsScenarioCause word input fault
IsUnanswered word input (PastEnd asked lines) = IsPastEnd word input asked lines
IsUnanswered word input WriteFailed = ⊥

-- ---- from a reader to a writer

-- the writer got the command's text for these bytes, and nothing else; `status` is the exit status
abbrev pub ServesText : Word → (input : List ℕ) → (old new : Option (List ℕ)) → (status : ℕ) → Type 0
ServesText word input old new status =
    (text : List ℕ) × Appends old new text × Answers word input text status

-- if it is known which bytes were read, the writer got the command's text for them, and nothing else;
-- `status` is the exit status
abbrev pub Serves : Word → (known old new : Option (List ℕ)) → (status : ℕ) → Type 0
Serves word known old new status = IfSome known (λ input. ServesText word input old new status)

-- when each fault comes if the input has been read; `written` means that a call of the writer
-- failed
abbrev pub IsTextFault : Word → (input : List ℕ) → (written : Type 0) → LabProgramFault → Type 0
IsTextFault word input written (Lab fault) = (fault ≡ OutOfMemory) ⊎ IsLabCause word input fault
IsTextFault word input written WriteFailed = written
IsTextFault word input written fault = IsUnanswered word input fault

-- when each fault comes; `read` and `written` mean that a call of the reader or the writer failed.
-- No file is opened here
abbrev pub IsServeFault : Word → (known : Option (List ℕ)) → (read written : Type 0) → LabProgramFault
    → Type 0
IsServeFault word known read written NotOpened = ⊥
IsServeFault word known read written ReadFailed = read
IsServeFault word known read written TooLong = IfSome known (λ input. limit < length input)
IsServeFault word known read written (Lab fault) =
    (fault ≡ OutOfMemory) ⊎ IfSome known (λ input. IsLabCause word input fault)
IsServeFault word known read written (Parts fault) = IfSome known (λ input. IsPartCause word input fault)
IsServeFault word known read written (Scenario fault) =
    IfSome known (λ input. IsScenarioCause word input fault)
IsServeFault word known read written (PastEnd asked lines) =
    IfSome known (λ input. IsPastEnd word input asked lines)
IsServeFault word known read written WriteFailed = written
