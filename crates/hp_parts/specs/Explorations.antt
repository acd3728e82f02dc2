-- The promises of an exploration.
use Rattle.std.specs.Prelude.{◌≡◌, ◌⊎◌, ℕ, ◌-◌, ◌^◌, ◌≤◌, Bool, List, Option, Some, None, option_map, sum_by}
use Rattle.hp_schedules.specs.declared.multinomials.HowMany.{HowMany}
use Rattle.hp_schedules.specs.declared.tally.Ending.{Ending}
use Rattle.hp_schedules.specs.Ends.{AreEnds, AreInOrder}
use Rattle.hp_schedules.specs.Interleavings.{IsKnown}
use Rattle.hp_schedules.specs.Orders.{HasMoreThan}
use Rattle.hp_schedules.specs.Schedules.{IsComplete, Setting}
use Rattle.hp_explore.specs.Faults.{FillsHistory, IsCauseWithin}
use Rattle.hp_explore.specs.Fronts.{AreFirst, counted}
use Rattle.hp_scenario.specs.declared.lines.Line.{Line}
use Rattle.hp_search.specs.declared.forms.EndsForm.{EndsForm}
use Rattle.hp_search.specs.declared.lab_fault.LabFault.{LabFault}
use Rattle.hp_search.specs.Ends.{AreEndsTold}
use Rattle.hp_search.specs.Faults.{IsFaultWith}
use Rattle.hp_search.specs.Groups.{AreShown, grouping_of}
use Rattle.hp_search.specs.declared.groups.GroupBy.{GroupBy}
use Rattle.hp_search.specs.Holding.{HoldsIn}

-- ---- scripts on a machine

-- with None, the ends count all complete schedules, there are at most `limit` of these, and no schedule
-- fills the history. With `known`, the ends count only the first schedules, there are more, and `known`
-- describes the number of all; and either `limit` schedules are counted, or the watch has ended the
-- search
abbrev pub AreExplored : Setting → (limit : ℕ) → (ended : Type 0) → List Ending → Option HowMany → Type 0
AreExplored g limit ended ends None =
    AreEnds g ends × (HasMoreThan (IsComplete g) limit → ⊥) × (FillsHistory g → ⊥)
AreExplored g limit ended ends (Some known) =
    AreFirst g (counted ends) ends × HasMoreThan (IsComplete g) (counted ends)
    × ((counted ends ≡ limit) ⊎ ended) × IsKnown g.scripts (2 ^ 64 - 1) known

-- the text has either the ends that were counted, or the groups of these ends. The ends count at most
-- `limit` schedules in all, and are in the order of their first schedules
pub record IsExploredOn (form : EndsForm) (by : Option GroupBy) (names : List (List ℕ)) (before : List Line)
    (g : Setting) (limit : ℕ) (ended : Type 0) (text : List ℕ) (found : Bool) : Type 0 where
  pub ends : List Ending
  pub more : Option HowMany
  pub are : AreExplored g limit ended ends more
  pub ordered : AreInOrder ends
  pub within : sum_by (λ e. e.count) ends ≤ limit
  pub shown : List Ending
  pub grouped : AreShown (option_map (grouping_of g) by) ends shown
  pub told : AreEndsTold form names before g shown more text found

-- ---- a scenario

-- the text reports an exploration of the scenario's scripts
abbrev pub IsExplorationOf : EndsForm → Option GroupBy → (input : List ℕ) → (setup limit : ℕ)
    → (ended : Type 0) → (text : List ℕ) → (found : Bool) → Type 0
IsExplorationOf form by input setup limit ended text found =
    HoldsIn (λ names before g. IsExploredOn form by names before g limit ended text found) input setup

-- the cause of each fault. For `HistoryFull`, the history has no room for a call of the search, and
-- at most `limit` complete schedules come before that call
abbrev pub IsFaultWithin : (input : List ℕ) → (setup limit : ℕ) → LabFault → Type 0
IsFaultWithin input setup limit fault =
    IsFaultWith (λ g. IsCauseWithin g limit) input setup fault
