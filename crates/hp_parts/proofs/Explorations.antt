-- From what an exploration says to what its text promises.
use Rattle.std.proofs.Common.{◌≡◌, ℕ, ◌≤◌, Bool, List, Option, Some, None, option_map, sum_by, subst, inl, inr}
use Rattle.hp_explore.specs.declared.exploring.Exploration.{Exploration}
use Rattle.std.specs.Prelude.{◌⊎◌}
use Rattle.hp_schedules.specs.declared.multinomials.HowMany.{HowMany}
use Rattle.hp_schedules.specs.declared.tally.Ending.{Ending}
use Rattle.hp_schedules.specs.Ends.{AreEnds, AreInOrder}
use Rattle.hp_explore.specs.Faults.{FillsHistory, IsCause, IsCauseWithin}
use Rattle.hp_explore.specs.declared.exploring.ExploreFault.{ExploreFault}
use Rattle.hp_explore.specs.declared.exploring.ExploreFault.TheVariants.{HistoryFull, OutOfMemory}
use Rattle.hp_schedules.specs.Orders.{HasMoreThan}
use Rattle.hp_explore.specs.Fronts.{AreFirst, IfFirst, IfWhole, counted}
use Rattle.hp_explore.specs.Settings.{setting}
use Rattle.hp_schedules.specs.declared.scripts.Step.{Step}
use Rattle.hp_schedules.specs.Schedules.{IsComplete, Setting}
use Rattle.hp_search.specs.declared.forms.EndsForm.{EndsForm}
use Rattle.hp_search.specs.declared.groups.GroupBy.{GroupBy}
use Rattle.hp_search.specs.Groups.{AreShown}
use Rattle.hp_search.specs.declared.lab_fault.LabFault.{LabFault}
use Rattle.hp_search.specs.Ends.{IsMore, IsTold}
use Rattle.hp_search.specs.Faults.{IsFaultOf, IsToldAs}
use Rattle.hp_search.specs.Prepared.{IsPrepared, IsUnprepared, before_of, names_of, setting_of}
use Rattle.hp_search.specs.declared.prepared.Prepared.{Prepared}
use Rattle.hp_search.proofs.Known.{unprepared_known, untold, untold_in}
use Rattle.hp_parts.specs.Explorations.{AreExplored, IsExplorationOf, IsExploredOn, IsFaultWithin}

-- the ends are all, or the first ones
explored_told : (g : Setting) (limit : ℕ) (ended : Type 0) (x : Exploration) (more : Option HowMany)
    → IfWhole x (AreEnds g) → IfWhole x (λ _. HasMoreThan (IsComplete g) limit → ⊥)
    → IfWhole x (λ _. FillsHistory g → ⊥) → IfFirst x (λ ends. AreFirst g (counted ends) ends)
    → IfFirst x (λ ends. HasMoreThan (IsComplete g) (counted ends))
    → IfFirst x (λ ends. (counted ends ≡ limit) ⊎ ended) → IsMore g.scripts x.is_whole more
    → AreExplored g limit ended x.ends.items more
explored_told g limit ended x None whole few room first many stopped h = (whole h, few h, room h)
explored_told g limit ended x (Some known) whole few room first many stopped h =
    (first h.0, many h.0, stopped h.0, h.1)

-- and they, or their groups, are told, where the scripts are those of a scenario that was made ready
pub is_explored : (form : EndsForm) (by : Option GroupBy) (p : Prepared) (scripts : List (List Step))
    (limit : ℕ) (ended : Type 0) (x shown : Exploration) (text : List ℕ) (found : Bool) (cpus : ℕ)
    → cpus ≡ p.start.machine.layout.cpus → scripts ≡ p.start.scripts.items
    → IfWhole x (AreEnds (setting p.start.machine scripts))
    → IfWhole x (λ _. HasMoreThan (IsComplete (setting p.start.machine scripts)) limit → ⊥)
    → IfWhole x (λ _. FillsHistory (setting p.start.machine scripts) → ⊥)
    → IfFirst x (λ ends. AreFirst (setting p.start.machine scripts) (counted ends) ends)
    → IfFirst x (λ ends. HasMoreThan (IsComplete (setting p.start.machine scripts)) (counted ends))
    → IfFirst x (λ ends. (counted ends ≡ limit) ⊎ ended)
    → AreInOrder x.ends.items → sum_by (λ e. e.count) x.ends.items ≤ limit
    → AreShown (option_map (λ b. record { by = b; cpus = cpus; scripts = scripts }) by) x.ends.items
    shown.ends.items
    → shown.is_whole ≡ x.is_whole
    → IsTold form (names_of p) (before_of p) (setting_of p) shown text found
    → IsExploredOn form by (names_of p) (before_of p) (setting_of p) limit ended text found
is_explored form by p scripts limit ended x shown text found cpus all same whole few room first many stopped
    ordered
    within grouped is_whole told =
    let more =
    subst (λ (w : Bool). IsMore (setting_of p).scripts w told.0) is_whole told.1 in
    record {
      ends = x.ends.items;
      more = told.0;
      are =
          subst (λ (ss : List (List Step)). AreExplored (setting p.start.machine ss) limit ended x.ends.items
          told.0) same
          (explored_told (setting p.start.machine scripts) limit ended x told.0 whole few room first many
          stopped (rw same more));
      ordered = ordered;
      within = within;
      shown = shown.ends.items;
      grouped = rw (← same, ← all) grouped;
      told = told.2;
    }

-- the same without why a search stopped
first_loosely : (g : Setting) (limit : ℕ) (ended : Type 0) (ends : List Ending) (more : Option HowMany)
    → AreExplored g limit ended ends more → AreExplored g limit (Unit {0}) ends more
first_loosely g limit ended ends None h = h
first_loosely g limit ended ends (Some known) h =
    (h.0, h.1, elim h.2 [ inl full ↦ inl full | inr why ↦ inr tt ], h.3)

pub loosely : (form : EndsForm) (by : Option GroupBy) (input : List ℕ) (setup limit : ℕ) (ended : Type 0)
    (text : List ℕ) (found : Bool)
    → IsExplorationOf form by input setup limit ended text found
    → IsExplorationOf form by input setup limit (Unit {0}) text found
loosely form by input setup limit ended text found h = record {
  named = h.named;
  read = h.read;
  plain = h.plain;
  resolved = h.resolved;
  holds = record {
    start = h.holds.start;
    scripts = h.holds.scripts;
    begun = h.holds.begun;
    holds = record {
      ends = h.holds.holds.ends;
      more = h.holds.holds.more;
      are =
          first_loosely (setting h.holds.start h.holds.scripts) limit ended h.holds.holds.ends
          h.holds.holds.more h.holds.holds.are;
      ordered = h.holds.holds.ordered;
      within = h.holds.holds.within;
      shown = h.holds.holds.shown;
      grouped = h.holds.holds.grouped;
      told = h.holds.holds.told;
    };
  };
}

-- ---- faults

-- a call to which the search comes is one of all
cause_known : (g : Setting) (limit : ℕ) (fault : ExploreFault) → IsCauseWithin g limit fault
    → IsCause g fault
cause_known g limit HistoryFull cause = (cause.place, cause.call)
cause_known g limit OutOfMemory cause = tt

-- as they are told
pub not_explored : (input : List ℕ) (setup limit : ℕ) (p : Prepared) (fault : ExploreFault) (told : LabFault)
    → IsPrepared input setup p → IsToldAs (setting_of p) fault told
    → IsCauseWithin (setting_of p) limit fault
    → IsFaultOf input setup told × IsFaultWithin input setup limit told
not_explored input setup limit p fault told ready is cause =
    let C = λ (g : Setting). IsCauseWithin g limit in (
      untold_in IsCause input setup p told ready
          (untold IsCause (setting_of p) fault told is (cause_known (setting_of p) limit fault cause)),
      untold_in C input setup p told ready
          (untold C (setting_of p) fault told is cause),
    )

-- those of what is not made ready
pub not_prepared : (input : List ℕ) (setup limit : ℕ) (fault : LabFault) → IsUnprepared input setup fault
    → IsFaultOf input setup fault × IsFaultWithin input setup limit fault
not_prepared input setup limit fault why = (
  unprepared_known IsCause input setup fault why,
  unprepared_known (λ (g : Setting). IsCauseWithin g limit) input setup fault why,
)
