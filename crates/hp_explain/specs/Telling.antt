-- The report on an order that explains answers.
use Rattle.std.specs.Prelude.{◌≡◌, ◌≤◌, ℕ, false, true, List, [], codes, length, map}
use Rattle.hp_schedules.specs.Orders.{IsBefore}
use Rattle.hp_schedules.specs.Schedules.{Setting}
use Rattle.hp_schedules.specs.declared.scripts.Step.{Step}
use Rattle.hp_explore.specs.Reaching.{HasRoomAlong}
use Rattle.hp_explore.specs.declared.exploring.ExploreFault.{ExploreFault}
use Rattle.hp_explore.specs.declared.exploring.ExploreFault.TheVariants.{HistoryFull, OutOfMemory}
use Rattle.hp_scenario.specs.declared.lines.Line.{Line}
use Rattle.hp_search.specs.Faults.{IsFaultWith}
use Rattle.hp_search.specs.FoundTexts.{found_text}
use Rattle.hp_search.specs.Holding.{HoldsAfter, HoldsIn, InScenario}
use Rattle.hp_search.specs.declared.forms.ScheduleForm.{ScheduleForm}
use Rattle.hp_search.specs.declared.forms.ScheduleForm.TheVariants.{Words, Object, Scenario}
use Rattle.hp_explain.specs.AnswerObjects.{AreObjectsOf}
use Rattle.hp_explain.specs.Answers.{IsRunText, are_objects}
use Rattle.hp_explain.specs.Explaining.{Explains, IsExplained}
use Rattle.hp_explain.specs.declared.explain_fault.ExplainFault.{ExplainFault}
use Rattle.hp_explain.specs.declared.explain_fault.ExplainFault.TheVariants.{Answers, Lab}
use Rattle.hp_explain.specs.declared.explaining.Explanation.{Explanation}
use Rattle.hp_explain.specs.declared.explaining.Explanation.TheVariants as found
use Rattle.hp_explain.specs.declared.observed.ObservedLine.{ObservedLine}
use Rattle.hp_explain.specs.declared.telling.ExplainResult.{ExplainResult}
use Rattle.hp_explain.specs.declared.telling.ExplainResult.TheVariants.{Explained, Unexplained, Unknown}

-- the text if it is not known whether an order explains the answers; as a scenario it is empty
abbrev pub unknown_told : ScheduleForm → List ℕ
unknown_told Words = codes "explained: unknown\n"
unknown_told Object = codes "{\"found\": null}\n"
unknown_told Scenario = []

-- ---- the text, for scripts on a machine

-- for `Explained`, the text has the first schedule that explains the observed answers, as a search for
-- an end writes it, and the history has room for its calls. For `Unexplained`, no schedule explains
-- them, and there is a longest explained beginning; the text may be any. For `Unknown`, the text
-- reports that the result is not known
abbrev pub IsExplainedOn : ScheduleForm → (names : List (List ℕ)) → (before : List Line) → Setting
    → List (List ObservedLine) → (text : List ℕ) → ExplainResult → Type 0
IsExplainedOn form names before g seen text Explained =
    (schedule : List ℕ) × Explains g seen schedule
    × ((s : List ℕ) → Explains g seen s → IsBefore s schedule → ⊥) × HasRoomAlong g schedule
    × (text ≡ found_text form names before g schedule)
IsExplainedOn form names before g seen text Unexplained =
    (longest : List ℕ) × ((s : List ℕ) → Explains g seen s → ⊥) × IsExplained g seen longest
    × ((s : List ℕ) → IsExplained g seen s → length s ≤ length longest)
IsExplainedOn form names before g seen text Unknown = text ≡ unknown_told form

-- the text and the result report an explanation. If it is an order, the text shows this order and the
-- result is `Explained`. If there is none, the result is `Unexplained`, and the text may be any
abbrev pub IsExplanationTold : ScheduleForm → (names : List (List ℕ)) → (before : List Line) → Setting
    → Explanation → (text : List ℕ) → ExplainResult → Type 0
IsExplanationTold form names before g (found.Explained schedule) text result =
    (text ≡ found_text form names before g schedule.items) × (result ≡ Explained)
IsExplanationTold form names before g (found.Unexplained longest) text result = result ≡ Unexplained

-- ---- the text, for a scenario

-- `seen` has an answer to each line of each script. The text `answers` has them either as objects or as
-- `hotplug run` prints them
abbrev pub AreAnswers : (answers : List ℕ) → List (List Step) → List (List ObservedLine) → Type 0
AreAnswers answers scripts seen =
    (map length seen ≡ map length scripts) × (are_objects answers ≡ false → IsRunText answers seen)
    × (are_objects answers ≡ true → AreObjectsOf answers seen)

-- the text has answers to the setting's scripts, and `P` holds of these answers
abbrev pub OfAnswers : (answers : List ℕ) → Setting → (List (List ObservedLine) → Type 0) → Type 0
OfAnswers answers g P = (seen : List (List ObservedLine)) × AreAnswers answers g.scripts seen × P seen

-- the text reports a search in the scenario, whose lines are all in scripts
abbrev pub IsExplainingOf : ScheduleForm → (input answers : List ℕ) → (text : List ℕ) → ExplainResult → Type 0
IsExplainingOf form input answers text result =
    HoldsIn (λ names before g. OfAnswers answers g
    (λ seen. IsExplainedOn form names before g seen text result)) input 0

-- the cause of a fault of the search for an order; `HistoryFull` never comes
abbrev pub IsExplainingCause : Setting → ExploreFault → Type 0
IsExplainingCause g HistoryFull = ⊥
IsExplainingCause g OutOfMemory = Unit {0}

-- the cause of each fault of the search. For a fault in the answers, it is only stated that the
-- scenario can be read and that its lines may be in scripts
abbrev pub IsExplainFaultOf : (input answers : List ℕ) → ExplainFault → Type 0
IsExplainFaultOf input answers (Lab fault) = IsFaultWith IsExplainingCause input 0 fault
IsExplainFaultOf input answers (Answers fault) =
    InScenario input 0 (HoldsAfter (λ g. Unit {0}) 0)
