-- From what the parts of an answer say to what the whole promises.
use Rattle.std.proofs.Common.{◌≡◌, ℕ, ◌-◌, ◌≤◌, List, length, get_or, take, Ok, refl, arith}
use Rattle.std.proofs.lemmas.Option.{slice_get_read}
use Rattle.hp_scenario.specs.declared.lines.Line.{Line}
use Rattle.hp_scenario.specs.Scenario.{ScenarioValue}
use Rattle.hp_scripts.specs.Named.{NamedValue, named_in}
use Rattle.hp_scripts.specs.Resolved.{Resolves}
use Rattle.hp_explore.specs.declared.exploring.ExploreFault.{ExploreFault}
use Rattle.hp_explore.specs.declared.exploring.ExploreFault.TheVariants as explore
use Rattle.hp_schedules.specs.declared.tally.Ending.{Ending}
use Rattle.hp_schedules.specs.Schedules.{Setting}
use Rattle.hp_search.specs.FaultOrigins.{start_fault_from}
use Rattle.hp_search.specs.declared.lab_fault.LabFault.{LabFault}
use Rattle.hp_search.specs.declared.lab_fault.LabFault.TheVariants.{HistoryFull, OutOfMemory}
use Rattle.hp_search.specs.Ends.{IsNumbered}
use Rattle.hp_search.specs.Faults.{IsFaultWith, IsFull, IsFullTold, IsToldAs, IsUntold}
use Rattle.hp_search.specs.Holding.{HoldsAfter, HoldsIn, InScenario}
use Rattle.hp_search.specs.Prepared.{IsPrepared, IsUnprepared, before_of, names_of, setting_of}
use Rattle.hp_search.specs.declared.prepared.Prepared.{Prepared}
use Rattle.hp_scripts.specs.Starts.{HasNoStart}
use Rattle.hp_scripts.specs.declared.start_fault.StartFault.{StartFault}
use Rattle.hp_scripts.specs.declared.start_fault.StartFault.TheVariants as start

-- ---- a line that cannot stand in a script

pub unready : (input : List ℕ) (named plain : NamedValue) (s : ScenarioValue) (setup : ℕ)
    (fault : StartFault)
    → named_in input ≡ Ok named → Resolves setup named plain → plain.scenario ≡ s → HasNoStart s setup fault
    → IsUnprepared input setup (start_fault_from fault)
unready input named plain s setup (start.NotForScript place why) read resolved same h = record {
  named = named;
  read = read;
  plain = plain;
  resolved = resolved;
  holds = rw same h;
}
unready input named plain s setup start.OutOfMemory read resolved same h = tt

-- ---- the fault of a call

-- as it is told
pub untold : (C : Setting → ExploreFault → Type 0) (g : Setting) (fault : ExploreFault) (told : LabFault)
    → IsToldAs g fault told → C g fault → IsUntold C g told
untold C g explore.HistoryFull told is cause = by_told told is
  where
    by_told : (told : LabFault) → IsFullTold g told → IsUntold C g told
    by_told (HistoryFull needed) is = (cause, is)
    by_told OutOfMemory is = tt
    by_told told is = absurd is
untold C g explore.OutOfMemory told is cause = rw is tt

-- ---- made ready for a search

in_prepared : (P : NamedValue → Type 0) (input : List ℕ) (setup : ℕ) (p : Prepared)
    → (ready : IsPrepared input setup p) → P ready.plain → InScenario input setup P
in_prepared P input setup p ready h = record {
  named = ready.named;
  read = ready.read;
  plain = ready.plain;
  resolved = ready.resolved;
  holds = h;
}

-- what holds on the machine where a search begins holds in the scenario
pub stopped_in : (P : Setting → Type 0) (input : List ℕ) (setup : ℕ) (p : Prepared)
    → IsPrepared input setup p → P (setting_of p) → InScenario input setup (HoldsAfter P setup)
stopped_in P input setup p ready h =
    in_prepared (HoldsAfter P setup) input setup p ready (record {
      start = p.start.machine;
      scripts = p.start.scripts.items;
      begun = ready.begun;
      holds = h;
    })

pub held_in : (P : (names : List (List ℕ)) → (before : List Line) → Setting → Type 0) (input : List ℕ)
    (setup : ℕ) (p : Prepared)
    → IsPrepared input setup p → P (names_of p) (before_of p) (setting_of p) → HoldsIn P input setup
held_in P input setup p ready h =
    in_prepared
    (λ (s : NamedValue). HoldsAfter (P s.scenario.names (take setup s.scenario.lines)) setup s) input setup p
    ready (record {
      start = p.start.machine;
      scripts = p.start.scripts.items;
      begun = ready.begun;
      holds =
          rw (ready.scenario, ← ready.number) h;
    })

-- why there is no answer there
pub untold_in : (C : Setting → ExploreFault → Type 0) (input : List ℕ) (setup : ℕ) (p : Prepared)
    (fault : LabFault)
    → IsPrepared input setup p → IsUntold C (setting_of p) fault → IsFaultWith C input setup fault
untold_in C input setup p (HistoryFull needed) ready h = stopped_in (IsFull C needed) input setup p ready h
untold_in C input setup p OutOfMemory ready h = tt
untold_in C input setup p fault ready h = absurd h

-- or why it was not made ready, which has nothing to do with the search
pub unprepared_known : (C : Setting → ExploreFault → Type 0) (input : List ℕ) (setup : ℕ) (fault : LabFault)
    → IsUnprepared input setup fault → IsFaultWith C input setup fault
unprepared_known C input setup (HistoryFull needed) h = absurd (h.holds.holds.0)
unprepared_known C input setup fault h = h

-- ---- the number of an end

pub numbered_at : (ends : List Ending) (number : ℕ) (e : Ending) → (number ≡ 0 → ⊥) → number ≤ length ends
    → e ≡ get_or ends (number - 1) e → IsNumbered ends number e
numbered_at ends number e some within is = record {
  place = number - 1;
  counted = omega (arith, some);
  here = slice_get_read ends (length ends) (number - 1) e refl (omega (arith, some, within)) is;
}
