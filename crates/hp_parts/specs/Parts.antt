-- The promises of the search of one part.
use Rattle.std.specs.Prelude.{◌≡◌, ◌⊎◌, ℕ, ◌-◌, ◌*◌, ◌<◌, ◌≤◌, ◌^◌, Bool, List, Option, Some, None, length, sum_by}
use Rattle.std.specs.Option.{is_none}
use Rattle.hp_explore.specs.declared.exploring.Exploration.{Exploration}
use Rattle.hp_schedules.specs.declared.multinomials.HowMany.{HowMany}
use Rattle.hp_schedules.specs.declared.tally.Ending.{Ending}
use Rattle.hp_schedules.specs.Ends.{AreCounted, AreInOrder}
use Rattle.hp_schedules.specs.Orders.{HasMoreThan}
use Rattle.hp_schedules.specs.Interleavings.{IsKnown}
use Rattle.hp_schedules.specs.Schedules.{Setting}
use Rattle.hp_explore.specs.declared.exploring.ExploreFault.{ExploreFault}
use Rattle.hp_explore.specs.declared.exploring.ExploreFault.TheVariants as explore
use Rattle.hp_search.specs.Ends.{IsMore}
use Rattle.hp_search.specs.Holding.{HoldsAfter, HoldsIn, InScenario}
use Rattle.hp_search.specs.declared.lab_fault.LabFault.{LabFault}
use Rattle.hp_search.specs.declared.lab_fault.LabFault.TheVariants.{HistoryFull}
use Rattle.hp_explore.specs.Fronts.{AreFirstInPart, counted}
use Rattle.hp_schedules.specs.Parts.{EndsInPart, IsCompleteInPart, PartValue}
use Rattle.hp_explore.specs.Faults.{FillsPart, FillsPartWithin}
use Rattle.hp_schedules.specs.PartNumbers.{NumberValue, part_by}
use Rattle.hp_parts.specs.Heads.{SearchValue}
use Rattle.hp_parts.specs.Texts.{part_text}

-- with None as the last argument, the ends count all complete schedules of the part, and there
-- are at most `limit` of these. No schedule in the part's search fills the history. With `known`,
-- the ends count only the part's first schedules. Either `limit` schedules are counted, or the
-- watch has ended the search. `known` is the number of complete schedules of all parts, as far as
-- it is known before any call
abbrev pub ArePartEnds : Setting → PartValue → (limit : ℕ) → (ended : Type 0) → List Ending → Option HowMany
    → Type 0
ArePartEnds g part limit ended ends None =
    AreCounted (EndsInPart g part) ends × (HasMoreThan (IsCompleteInPart g part) limit → ⊥)
    × (FillsPart g part → ⊥)
ArePartEnds g part limit ended ends (Some known) =
    AreFirstInPart g part (counted ends) ends × HasMoreThan (IsCompleteInPart g part) (counted ends)
    × ((counted ends ≡ limit) ⊎ ended) × IsKnown g.scripts (2 ^ 64 - 1) known

-- the number of first calls that decide a part (hp_explore): the smallest that gives at least 64
-- beginnings per part, if no script ends earlier. It is 0 for fewer than two parts or processors
pub record IsCallsFor (processors parts calls : ℕ) : Type 0 where
  pub one : parts < 2 → calls ≡ 0
  pub alone : processors < 2 → calls ≡ 0
  pub enough : 2 ≤ parts → 2 ≤ processors → 64 * parts ≤ processors ^ calls
  pub fewest : (d : ℕ) → d < calls → processors ^ d < 64 * parts

-- the search that the part belongs to
abbrev pub search_of : NumberValue → (calls setup : ℕ) → (scenario : List ℕ) → SearchValue
search_of n calls setup scenario =
    record { of = n.of; calls = calls; setup = setup; scenario = scenario }

-- the text has the ends of a part, in the order of their first schedules
pub record IsPartOn (n : NumberValue) (setup : ℕ) (scenario : List ℕ) (limit : ℕ) (ended : Type 0)
    (text : List ℕ) (found : Bool) (names : List (List ℕ)) (g : Setting) : Type 0 where
  pub calls : ℕ
  pub ends : List Ending
  pub more : Option HowMany
  pub by : IsCallsFor (length g.scripts) n.of calls
  pub are : ArePartEnds g (part_by n calls) limit ended ends more
  pub ordered : AreInOrder ends
  pub within : sum_by (λ e. e.count) ends ≤ limit
  pub told : text ≡ part_text names g (search_of n calls setup scenario) n.number ends more
  pub is_found : found ≡ is_none more

-- the text reports the exploration of a part
abbrev pub IsToldPart : (names : List (List ℕ)) → Setting → SearchValue → (number : ℕ) → Exploration
    → (text : List ℕ) → (found : Bool) → Type 0
IsToldPart names g s number x text found =
    (more : Option HowMany) × IsMore g.scripts x.is_whole more
    × (text ≡ part_text names g s number x.ends.items more) × (found ≡ is_none more)

-- the history has no room for a call of the part's search, and at most `limit` schedules of the
-- part come before that call
abbrev pub FillsPartOf : NumberValue → (limit : ℕ) → Setting → Type 0
FillsPartOf n limit g =
    (calls : ℕ) × IsCallsFor (length g.scripts) n.of calls × FillsPartWithin g (part_by n calls) limit

-- the cause of a fault of a part's search
abbrev pub IsPartCause : NumberValue → (limit : ℕ) → Setting → ExploreFault → Type 0
IsPartCause n limit g explore.HistoryFull = FillsPartOf n limit g
IsPartCause n limit g explore.OutOfMemory = Unit {0}

-- the input is a scenario, and the text reports the search of a part of its schedules
abbrev pub IsPartOf : NumberValue → (input : List ℕ) → (setup limit : ℕ) → (ended : Type 0)
    → (text : List ℕ) → (found : Bool) → Type 0
IsPartOf n input setup limit ended text found =
    HoldsIn (λ names before g. IsPartOn n setup input limit ended text found names g) input setup

-- if the fault is a full history, it has no room for a call of the part's search, and at most
-- `limit` schedules of the part come before that call
abbrev pub IsFullPart : NumberValue → (input : List ℕ) → (setup limit : ℕ) → LabFault → Type 0
IsFullPart n input setup limit (HistoryFull needed) =
    InScenario input setup (HoldsAfter (FillsPartOf n limit) setup)
IsFullPart n input setup limit fault = Unit {0}
