-- The schedules that end as wanted, and the nearest of them.
use Rattle.std.specs.Prelude.{ℕ, ◌<◌, ◌≤◌, List, Option, Some, None}
use Rattle.hp_explore.specs.Faults.{FillsAlong, FillsHistory}
use Rattle.hp_schedules.specs.Orders.{IsBefore}
use Rattle.hp_schedules.specs.Outcomes.{OutcomeValue}
use Rattle.hp_schedules.specs.Schedules.{EndsWith, Setting}
use Rattle.hp_explore.specs.Changes.{changes}
use Rattle.hp_questions.specs.Wanted.{Meets}
use Rattle.hp_explore.specs.declared.finding.Found.{Found}
use Rattle.hp_explore.specs.declared.finding.Found.TheVariants.{Nearest, Absent}
use Rattle.hp_questions.specs.declared.wanted.Wanted.{Wanted}

-- the schedule is complete, and its outcome meets all wanted lines
abbrev pub Reaches : Setting → List Wanted → List ℕ → Type 0
Reaches g wanted s = (x : OutcomeValue) × EndsWith g s x × Meets g.layout.cpus g.scripts wanted x

-- each schedule that ends as wanted has at least `least` changes
abbrev pub NeedsChanges : Setting → List Wanted → (least : ℕ) → Type 0
NeedsChanges g wanted least = (s : List ℕ) → Reaches g wanted s → least ≤ changes s

-- ---- a budget of changes; None is no budget

-- the schedule has at most as many changes as the budget, if there is one
abbrev pub IsWithin : (budget : Option ℕ) → List ℕ → Type 0
IsWithin None s = Unit {0}
IsWithin (Some budget) s = changes s ≤ budget

-- there is a budget, and the schedule has more changes than it allows
abbrev pub Exceeds : (budget : Option ℕ) → List ℕ → Type 0
Exceeds None s = ⊥
Exceeds (Some budget) s = budget < changes s

-- the property P holds, if there is no budget
abbrev pub IfUnbounded : (budget : Option ℕ) → Type 0 → Type 0
IfUnbounded None P = P
IfUnbounded (Some budget) P = Unit {0}

-- if a schedule ends as wanted and comes before the place, then it exceeds the budget. So without a
-- budget there is none
abbrev pub IsPassed : Setting → List Wanted → (budget : Option ℕ) → (place : List ℕ) → Type 0
IsPassed g wanted budget place =
    (s : List ℕ) → Reaches g wanted s → IsBefore s place → Exceeds budget s

-- ---- the nearest schedule

-- the schedule ends as wanted. No schedule with fewer changes does, and no earlier one with equally many
abbrev pub IsNearest : Setting → List Wanted → List ℕ → Type 0
IsNearest g wanted s =
    Reaches g wanted s × NeedsChanges g wanted (changes s) × IsPassed g wanted (Some (changes s)) s

-- the schedule ends as wanted, and none before it does
abbrev pub ReachesFirst : Setting → List Wanted → List ℕ → Type 0
ReachesFirst g wanted s = Reaches g wanted s × ((t : List ℕ) → Reaches g wanted t → IsBefore t s → ⊥)

-- the history has room for each call of the schedule
abbrev pub HasRoomAlong : Setting → List ℕ → Type 0
HasRoomAlong g s = FillsAlong g s → ⊥

-- the result of the search is right: either the nearest schedule that ends as wanted, or that there is
-- none
abbrev pub IsFound : Setting → List Wanted → Found → Type 0
IsFound g wanted (Nearest schedule) = IsNearest g wanted schedule.items
IsFound g wanted Absent = (s : List ℕ) → Reaches g wanted s → ⊥

-- if the result is a schedule, it is the nearest one that ends as wanted. It has fewer than `below`
-- changes, and the history has room for each of its calls. If the result is None, each schedule that
-- ends as wanted has at least `below` changes
abbrev pub IsNearestBelow : Setting → List Wanted → (below : ℕ) → Option (List ℕ) → Type 0
IsNearestBelow g wanted below None = NeedsChanges g wanted below
IsNearestBelow g wanted below (Some s) = IsNearest g wanted s × (changes s < below) × HasRoomAlong g s

-- if the result is a schedule, it is the first one within the budget that ends as wanted, and the
-- history has room for each of its calls. If the result is None, each schedule that ends as wanted
-- exceeds the budget. Without a budget, None means that no schedule ends as wanted, and that the history
-- has room for each call
abbrev pub IsFirstWithin : Setting → List Wanted → (budget : Option ℕ) → Option (List ℕ) → Type 0
IsFirstWithin g wanted budget None =
    ((s : List ℕ) → Reaches g wanted s → Exceeds budget s) × IfUnbounded budget (FillsHistory g → ⊥)
IsFirstWithin g wanted budget (Some s) =
    Reaches g wanted s × IsWithin budget s × IsPassed g wanted budget s × HasRoomAlong g s
