-- What is told of answers: the order that explains them, or why there is none.
use Rattle.std.proofs.Common.{ℕ, List}
use Rattle.hp_explore.specs.FindFaults.{find_fault_from}
use Rattle.hp_explore.specs.declared.exploring.ExploreFault.{ExploreFault}
use Rattle.hp_explore.specs.declared.exploring.ExploreFault.TheVariants.{HistoryFull, OutOfMemory}
use Rattle.hp_scenario.specs.declared.lines.Line.{Line}
use Rattle.hp_schedules.specs.Schedules.{Setting}
use Rattle.hp_search.proofs.Known.{untold, untold_in}
use Rattle.hp_search.specs.Faults.{IsToldAs}
use Rattle.hp_search.specs.Prepared.{IsPrepared, setting_of}
use Rattle.hp_search.specs.declared.forms.ScheduleForm.{ScheduleForm}
use Rattle.hp_search.specs.declared.lab_fault.LabFault.{LabFault}
use Rattle.hp_search.specs.declared.prepared.Prepared.{Prepared}
use Rattle.hp_explain.specs.Explaining.{IsExplainCause, IsExplanation}
use Rattle.hp_explain.specs.Telling.{IsExplainFaultOf, IsExplainedOn, IsExplainingCause, IsExplanationTold}
use Rattle.hp_explain.specs.declared.explain_fault.ExplainFault.TheVariants.{Lab}
use Rattle.hp_explain.specs.declared.explaining.Explanation.{Explanation}
use Rattle.hp_explain.specs.declared.explaining.Explanation.TheVariants as found
use Rattle.hp_explain.specs.declared.observed.ObservedLine.{ObservedLine}
use Rattle.hp_explain.specs.declared.telling.ExplainResult.{ExplainResult}

-- what a search found is told
pub explained_on : (form : ScheduleForm) (names : List (List ℕ)) (before : List Line) (g : Setting)
    (seen : List (List ObservedLine)) (what : Explanation) (text : List ℕ) (result : ExplainResult)
    → IsExplanation g seen what → IsExplanationTold form names before g what text result
    → IsExplainedOn form names before g seen text result
explained_on form names before g seen (found.Explained s) text result is told =
    rw told.1 (s.items, is.0, is.1, is.2, told.0)
explained_on form names before g seen (found.Unexplained s) text result is told =
    rw told (s.items, is.0, is.1, is.2)

-- a call fails in the search
pub not_searched : (input answers : List ℕ) (p : Prepared) (fault : ExploreFault) (told : LabFault)
    → IsPrepared input 0 p → IsToldAs (setting_of p) fault told → IsExplainCause (find_fault_from fault)
    → IsExplainFaultOf input answers (Lab told)
not_searched input answers p fault told ready is cause =
    untold_in IsExplainingCause input 0 p told ready
    (untold IsExplainingCause (setting_of p) fault told is (by_fault fault cause))
  where
    by_fault : (f : ExploreFault) → IsExplainCause (find_fault_from f) → IsExplainingCause (setting_of p) f
    by_fault HistoryFull cause = cause
    by_fault OutOfMemory cause = tt
