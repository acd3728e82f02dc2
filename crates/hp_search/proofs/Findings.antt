-- Why a search of a scenario has no answer, and what its answer says.
use Rattle.std.proofs.Common.{ℕ, List}
use Rattle.hp_explore.specs.declared.exploring.ExploreFault.{ExploreFault}
use Rattle.hp_explore.specs.FindFaults.{IsFindCause, IsRecorded, SparesHistory, find_fault_from}
use Rattle.hp_explore.specs.Reaching.{IsFound}
use Rattle.hp_explore.specs.declared.finding.Found.{Found as Sought}
use Rattle.hp_explore.specs.declared.finding.Found.TheVariants as sought
use Rattle.hp_questions.specs.Limits.{AreWithin}
use Rattle.hp_questions.specs.declared.wanted.Wanted.{Wanted}
use Rattle.hp_scenario.specs.declared.lines.Line.{Line}
use Rattle.hp_schedules.specs.Schedules.{Setting}
use Rattle.hp_search.specs.declared.forms.ScheduleForm.{ScheduleForm}
use Rattle.hp_search.specs.declared.found.FindResult.{FindResult}
use Rattle.hp_search.specs.declared.lab_fault.LabFault.{LabFault}
use Rattle.hp_search.specs.declared.lab_fault.LabFault.TheVariants.{PastLayout}
use Rattle.hp_search.specs.Faults.{IsFaultWith, IsToldAs}
use Rattle.hp_search.specs.Prepared.{IsPrepared, setting_of}
use Rattle.hp_search.specs.declared.prepared.Prepared.{Prepared}
use Rattle.hp_search.proofs.Known.{untold, untold_in}
use Rattle.hp_search.specs.Findings.{IsFindFaultOf, IsFoundOn, IsFoundTold, IsSearchCause}

-- what a search found is told
pub found_on : (form : ScheduleForm) (names : List (List ℕ)) (before : List Line) (g : Setting)
    (wanted : List Wanted) (what : Sought) (text : List ℕ) (result : FindResult)
    → AreWithin g.layout wanted → IsFound g wanted what → SparesHistory g what → IsRecorded g what
    → IsFoundTold form names before g what text result → IsFoundOn form names before g wanted text result
found_on form names before g wanted (sought.Nearest s) text result within is room along told =
    rw told.1 (s.items, within, is, along, told.0)
found_on form names before g wanted sought.Absent text result within is room along told =
    rw told.1 (within, is, room, told.0)

-- a fault that any search of a scenario has
pub not_past : (input : List ℕ) (setup : ℕ) (wanted : List Wanted) (fault : LabFault)
    → IsFaultWith (IsSearchCause wanted) input setup fault → IsFindFaultOf input setup wanted fault
not_past input setup wanted (PastLayout n) h = absurd h
not_past input setup wanted fault h = h

pub not_found : (input : List ℕ) (setup : ℕ) (wanted : List Wanted) (p : Prepared) (fault : ExploreFault)
    (told : LabFault)
    → IsPrepared input setup p → AreWithin (setting_of p).layout wanted → IsToldAs (setting_of p) fault told
    → IsFindCause (setting_of p) wanted (find_fault_from fault) → IsFindFaultOf input setup wanted told
not_found input setup wanted p fault told ready within is cause =
    not_past input setup wanted told
    (untold_in (IsSearchCause wanted) input setup p told ready
    (untold (IsSearchCause wanted) (setting_of p) fault told is (within, cause)))
