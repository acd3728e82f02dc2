-- From what the search of a part says to what its text promises.
use Rattle.std.proofs.Common.{◌≡◌, ℕ, List, length, Option, Some, None, refl}
use Rattle.std.specs.Prelude.{◌⊎◌}
use Rattle.std.specs.Str.{IsUtf8}
use Rattle.hp_explore.specs.declared.exploring.Exploration.{Exploration}
use Rattle.hp_explore.specs.declared.exploring.ExploreFault.{ExploreFault}
use Rattle.hp_explore.specs.declared.exploring.ExploreFault.TheVariants as explore
use Rattle.hp_schedules.specs.declared.multinomials.HowMany.{HowMany}
use Rattle.hp_schedules.specs.Ends.{AreCounted}
use Rattle.hp_schedules.specs.Orders.{HasMoreThan}
use Rattle.hp_explore.specs.Fronts.{AreFirstInPart, IfFirst, IfWhole, counted}
use Rattle.hp_schedules.specs.Schedules.{Setting}
use Rattle.hp_explore.specs.Faults.{FillsPart, IsCause, IsCausePartWithin}
use Rattle.hp_search.specs.Ends.{IsMore}
use Rattle.hp_search.specs.Faults.{IsFaultOf, IsFaultWith, IsFull}
use Rattle.hp_scripts.specs.Named.{named_in}
use Rattle.hp_search.specs.Holding.{HoldsAfter, InScenario}
use Rattle.hp_search.specs.declared.lab_fault.LabFault.{LabFault}
use Rattle.hp_search.specs.declared.lab_fault.LabFault.TheVariants as lab
use Rattle.hp_schedules.specs.Parts.{EndsInPart, IsCompleteInPart, PartValue}
use Rattle.hp_scenario.specs.declared.fault.ScenarioFault.TheVariants.{NotJson}
use Rattle.hp_scenario.proofs.Json.{json_refused}
use Rattle.hp_schedules.specs.PartNumbers.{NumberValue, part_by}
use Rattle.hp_parts.specs.Parts.{ArePartEnds, FillsPartOf, IsCallsFor, IsFullPart, IsPartCause}

-- the ends are all of the part, or its first ones
pub part_explored : (g : Setting) (part : PartValue) (limit : ℕ) (ended : Type 0) (x : Exploration)
    (more : Option HowMany)
    → IfWhole x (AreCounted (EndsInPart g part))
    → IfWhole x (λ _. HasMoreThan (IsCompleteInPart g part) limit → ⊥)
    → IfWhole x (λ _. FillsPart g part → ⊥)
    → IfFirst x (λ ends. AreFirstInPart g part (counted ends) ends)
    → IfFirst x (λ ends. HasMoreThan (IsCompleteInPart g part) (counted ends))
    → IfFirst x (λ ends. (counted ends ≡ limit) ⊎ ended) → IsMore g.scripts x.is_whole more
    → ArePartEnds g part limit ended x.ends.items more
part_explored g part limit ended x None whole few room first many stopped h = (whole h, few h, room h)
part_explored g part limit ended x (Some known) whole few room first many stopped h =
    (first h.0, many h.0, stopped h.0, h.1)

-- why a part is not searched
pub part_cause : (n : NumberValue) (limit : ℕ) (g : Setting) (calls : ℕ) (fault : ExploreFault)
    → IsCallsFor (length g.scripts) n.of calls → IsCausePartWithin g (part_by n calls) limit fault
    → IsPartCause n limit g fault
part_cause n limit g calls explore.HistoryFull by cause = (calls, by, cause)
part_cause n limit g calls explore.OutOfMemory by cause = tt

stopped_weaker : (P Q : Setting → Type 0) (input : List ℕ) (setup : ℕ) → ((g : Setting) → P g → Q g)
    → InScenario input setup (HoldsAfter P setup) → InScenario input setup (HoldsAfter Q setup)
stopped_weaker P Q input setup f h = record {
  named = h.named;
  read = h.read;
  plain = h.plain;
  resolved = h.resolved;
  holds = record {
    start = h.holds.start;
    scripts = h.holds.scripts;
    begun = h.holds.begun;
    holds = f _ h.holds.holds;
  };
}

-- what fills the history in a part's search fills it in that of all
pub part_fault : (n : NumberValue) (input : List ℕ) (setup limit : ℕ) (fault : LabFault)
    → IsFaultWith (IsPartCause n limit) input setup fault → IsFaultOf input setup fault
part_fault n input setup limit (lab.HistoryFull needed) h =
    stopped_weaker (IsFull (IsPartCause n limit) needed) (IsFull IsCause needed) input setup
    (λ g x. ((x.0.2.place, x.0.2.call), x.1)) h
part_fault n input setup limit fault h = h

-- and a schedule of the part does
pub full_part : (n : NumberValue) (input : List ℕ) (setup limit : ℕ) (fault : LabFault)
    → IsFaultWith (IsPartCause n limit) input setup fault
    → IsFullPart n input setup limit fault
full_part n input setup limit (lab.HistoryFull needed) h =
    stopped_weaker (IsFull (IsPartCause n limit) needed) (FillsPartOf n limit) input setup (λ g x. x.0) h
full_part n input setup limit fault h = tt

-- bytes that are no text are no scenario
pub no_text : (input : List ℕ) (setup : ℕ) → (IsUtf8 input → ⊥) → IsFaultOf input setup lab.NotJson
unfolding named_in
no_text input setup none = (NotJson, rw (json_refused input (λ text. absurd (none text))), refl)
