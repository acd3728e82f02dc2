-- The faults in adding up parts: each fault comes only from its cause.
use Rattle.std.specs.Prelude.{◌≡◌, ◌⊎◌, ℕ, ◌+◌, ◌<◌, ◌≤◌, ◌^◌, List, length, take}
use Rattle.hp_schedules.specs.declared.tally.Ending.{Ending}
use Rattle.hp_schedules.specs.Outcomes.{OutcomeValue}
use Rattle.hp_schedules.specs.Schedules.{Setting}
use Rattle.hp_explore.specs.Faults.{FillsAlong}
use Rattle.hp_explore.specs.declared.exploring.ExploreFault.{ExploreFault}
use Rattle.hp_explore.specs.declared.exploring.ExploreFault.TheVariants as explore
use Rattle.hp_search.specs.Faults.{IsUntold}
use Rattle.hp_search.specs.Holding.{HoldsIn}
use Rattle.hp_search.specs.Prepared.{IsUnprepared}
use Rattle.hp_search.specs.declared.lab_fault.LabFault.{LabFault}
use Rattle.hp_search.specs.declared.lab_fault.LabFault.TheVariants.{OutOfMemory}
use Rattle.hp_schedules.specs.Parts.{EndsInPart}
use Rattle.hp_parts.specs.Adding.{counted_by}
use Rattle.hp_parts.specs.Cuts.{HasNoNewline, IsLineAt, line_number}
use Rattle.hp_parts.specs.Gathering.{GatheringValue, PartEndsValue}
use Rattle.hp_parts.specs.Heads.{HeadValue, IsHead, IsNumber, SearchValue, head_line, part_in}
use Rattle.hp_parts.specs.Ordering.{AreAll, IsOrderFault}
use Rattle.hp_parts.specs.Reading.{IsLine}
use Rattle.hp_parts.specs.declared.ordering.OrderFault.{OrderFault}
use Rattle.hp_parts.specs.declared.ordering.OrderFault.TheVariants as order
use Rattle.hp_parts.specs.declared.reading.PartLine.TheVariants.{Head, End, Stop, Other}
use Rattle.hp_parts.specs.Gathered.{IsGathered, IsGathering, IsLastOther}
use Rattle.hp_parts.specs.Texts.{end_line}
use Rattle.hp_search.specs.declared.part_fault.PartFault.{PartFault}
use Rattle.hp_search.specs.declared.part_fault.PartFault.TheVariants as part
use Rattle.hp_parts.specs.declared.line_fault.LineFault.{LineFault}
use Rattle.hp_parts.specs.declared.line_fault.LineFault.TheVariants.{NotPart, OtherSearch, NotOfPart, Changed, Stopped, OtherCount, Lab}
use Rattle.std.specs.Global.{Vec}

-- ---- a line

-- the fault of the sum for a fault of one line
abbrev pub fault_of_line : LineFault → (line : ℕ) → PartFault
fault_of_line NotPart line = part.NotPart line
fault_of_line OtherSearch line = part.OtherSearch line
fault_of_line NotOfPart line = part.NotOfPart line
fault_of_line Changed line = part.Changed line
fault_of_line Stopped line = part.Stopped line
fault_of_line (OtherCount number) line = part.OtherCount number
fault_of_line (Lab fault) line = part.Lab fault

-- `text` is the head of part `number` of the search, with `ends` as its number of ends
abbrev pub IsOwnHead : SearchValue → (text : List ℕ) → (number ends : ℕ) → Type 0
IsOwnHead s text number ends = IsNumber s number × (text ≡ head_line s number ends)

-- `text` is a head, but not byte for byte the head of a part of the search
abbrev pub IsOtherHead : SearchValue → (text : List ℕ) → Type 0
IsOtherHead s text =
    (number : ℕ) × (ends : ℕ) × IsLine text (Head number ends) × (IsOwnHead s text number ends → ⊥)

-- `text` is the head of a part of the search, but the part before it has another number of ends than
-- its own head gives
abbrev pub IsAfterOther : SearchValue → GatheringValue → (text : List ℕ) → (before : ℕ) → Type 0
IsAfterOther s v text before =
    IsLastOther v before × (number : ℕ) × (ends : ℕ) × IsOwnHead s text number ends

-- `text` is the line of an end, but its schedule is not a complete schedule of the part
pub record IsOfNoPart (g : Setting) (s : SearchValue) (v : GatheringValue) (text : List ℕ) : Type 0 where
  pub count : ℕ
  pub schedule : Vec ℕ
  pub line : IsLine text (End count schedule)
  pub none : (x : OutcomeValue) → EndsInPart g (part_in s v.last.number) schedule.items x → ⊥

-- `text` is the line of an end, but the search writes this line differently
pub record IsChanged (names : List (List ℕ)) (g : Setting) (s : SearchValue) (v : GatheringValue)
    (text : List ℕ) : Type 0 where
  pub end : Ending
  pub line : IsLine text (End end.count end.first)
  pub own : EndsInPart g (part_in s v.last.number) end.first.items end.outcome
  pub other : text ≡ end_line names g (length v.last.ends + 1) end → ⊥

-- the cause of a fault in playing a schedule: the history has no room for one of its calls
abbrev pub IsCauseAlong : (schedule : List ℕ) → Setting → ExploreFault → Type 0
IsCauseAlong schedule g explore.HistoryFull = FillsAlong g schedule
IsCauseAlong schedule g explore.OutOfMemory = Unit {0}

-- the cause of a fault in playing the schedule of an end's line
abbrev pub IsCauseIn : (text : List ℕ) → Setting → ExploreFault → Type 0
IsCauseIn text g explore.HistoryFull =
    (count : ℕ) × (schedule : Vec ℕ) × IsLine text (End count schedule) × FillsAlong g schedule.items
IsCauseIn text g explore.OutOfMemory = Unit {0}

-- the fault is that the schedule could not be played
abbrev pub IsUnplayed : Setting → (schedule : List ℕ) → LineFault → Type 0
IsUnplayed g schedule fault = (why : LabFault) × (fault ≡ Lab why) × IsUntold (IsCauseAlong schedule) g why

-- the cause of each fault in adding an end to a part
abbrev pub IsUnpushed : (names : List (List ℕ)) → Setting → GatheringValue → (text : List ℕ) → Ending
    → LineFault → Type 0
IsUnpushed names g v text end Changed = text ≡ end_line names g (length v.last.ends + 1) end → ⊥
IsUnpushed names g v text end (Lab fault) = fault ≡ OutOfMemory
IsUnpushed names g v text end fault = ⊥

-- the cause of each fault of a line after the lines before it
abbrev pub IsLineFault : (names : List (List ℕ)) → Setting → SearchValue → GatheringValue → (text : List ℕ)
    → LineFault → Type 0
IsLineFault names g s v text NotPart = IsLine text Other
IsLineFault names g s v text OtherSearch = IsOtherHead s text
IsLineFault names g s v text NotOfPart = IsOfNoPart g s v text
IsLineFault names g s v text Changed = IsChanged names g s v text
IsLineFault names g s v text Stopped = IsLine text Stop
IsLineFault names g s v text (OtherCount number) = IsAfterOther s v text number
IsLineFault names g s v text (Lab fault) = IsUntold (IsCauseIn text) g fault

-- ---- the parts

-- the fault of the sum for a fault in the order of the parts
abbrev pub fault_of_order : OrderFault → PartFault
fault_of_order (order.Missing number) = part.Missing number
fault_of_order (order.Twice number) = part.Twice number
fault_of_order order.OutOfMemory = part.Lab OutOfMemory

-- either a part is missing or comes twice, or memory ran out
abbrev pub IsMisplaced : List PartEndsValue → (of : ℕ) → PartFault → Type 0
IsMisplaced parts of fault = (why : OrderFault) × (fault ≡ fault_of_order why) × IsOrderFault parts of why

-- ---- the whole sum

-- a line after the first head is refused, and each line before it is accepted
abbrev pub IsUnread : (input : List ℕ) → (names : List (List ℕ)) → Setting → SearchValue → PartFault → Type 0
IsUnread input names g s fault =
    (place : ℕ) × (text : List ℕ) × (v : GatheringValue) × (cause : LineFault)
    × (fault ≡ fault_of_line cause (line_number input place)) × IsLineAt input place text
    × IsGathering names g s (take place input) v × IsLineFault names g s v text cause

-- the last line has no newline, and the lines before it are accepted
abbrev pub IsUnended : (input : List ℕ) → (names : List (List ℕ)) → Setting → SearchValue → PartFault
    → Type 0
IsUnended input names g s fault =
    (place : ℕ) × (v : GatheringValue) × (place < length input)
    × (fault ≡ part.NotPart (line_number input place)) × HasNoNewline input place
    × IsGathering names g s (take place input) v

-- the last part has another number of ends than its head gives
abbrev pub IsLastCut : (input : List ℕ) → (names : List (List ℕ)) → Setting → SearchValue → PartFault
    → Type 0
IsLastCut input names g s fault =
    (number : ℕ) × (v : GatheringValue) × (fault ≡ part.OtherCount number) × IsGathering names g s input v
    × IsLastOther v number

-- either the counts of all parts add up to 2^64 or more, or memory ran out
abbrev pub IsTooMany : List (List Ending) → PartFault → Type 0
IsTooMany lists part.TooMany = 2 ^ 64 ≤ counted_by lists
IsTooMany lists (part.Lab fault) = fault ≡ OutOfMemory
IsTooMany lists fault = ⊥

-- the input consists of parts, but one is missing or comes twice, or their counts cannot be added
-- up; or memory ran out
pub record IsUnsummed (input : List ℕ) (names : List (List ℕ)) (g : Setting) (s : SearchValue)
    (fault : PartFault) : Type 0 where
  pub parts : List PartEndsValue
  pub read : IsGathered names g s input parts
  pub cause : IsMisplaced parts s.of fault
      ⊎ ((lists : List (List Ending)) × AreAll parts s.of lists × IsTooMany lists fault)

-- the cause of each fault in adding up the parts of a prepared scenario, once the first head has been
-- read
abbrev pub IsUntoldSum : (input : List ℕ) → (names : List (List ℕ)) → Setting → SearchValue → PartFault
    → Type 0
IsUntoldSum input names g s fault =
    (fault ≡ part.Lab OutOfMemory)
    ⊎ (IsUnread input names g s fault
    ⊎ (IsUnended input names g s fault
    ⊎ (IsLastCut input names g s fault ⊎ IsUnsummed input names g s fault)))

-- the fault if the scenario in the head of part `number` cannot be explored
abbrev pub fault_of_head : (number : ℕ) → LabFault → PartFault
fault_of_head number OutOfMemory = part.Lab OutOfMemory
fault_of_head number why = part.Head number why

-- either the scenario in the head cannot be prepared, or the parts cannot be added up
abbrev pub IsUnsummedIn : (input : List ℕ) → HeadValue → PartFault → Type 0
IsUnsummedIn input h fault =
    ((why : LabFault) × (fault ≡ fault_of_head h.number why)
    × IsUnprepared h.search.scenario h.search.setup why)
    ⊎ HoldsIn (λ names before g. IsUntoldSum input names g h.search fault) h.search.scenario h.search.setup

-- the text begins with this head
abbrev pub BeginsWith : (input : List ℕ) → HeadValue → Type 0
BeginsWith input h = (text : List ℕ) × IsLineAt input 0 text × IsHead text h

-- either the text has no newline, or its first line is not a head
abbrev pub BeginsWithNone : (input : List ℕ) → Type 0
BeginsWithNone input =
    HasNoNewline input 0
    ⊎ ((text : List ℕ) × IsLineAt input 0 text × ((h : HeadValue) → IsHead text h → ⊥))

-- the cause of each fault of the sum
abbrev pub IsSumFault : (input : List ℕ) → PartFault → Type 0
IsSumFault input fault =
    (((fault ≡ part.NotPart 1) × BeginsWithNone input) ⊎ (fault ≡ part.Lab OutOfMemory))
    ⊎ ((h : HeadValue) × BeginsWith input h × IsUnsummedIn input h fault)
