-- The aim of a search for an order that explains the observed answers, and the changes of this aim.
use Rattle.std.specs.Prelude.{◌≡◌, ◌⊎◌, ℕ, ◌<◌, ◌≤◌, List, ◌∷◌, Some, length}
use Rattle.hp_units.specs.declared.replies.Record.{Record}
use Rattle.hp_schedules.specs.Schedules.{Setting, plays}
use Rattle.hp_explore.specs.Aims.{AimValue}
use Rattle.hp_explore.specs.CausesBelow.{AreCausedBelow}
use Rattle.hp_explain.specs.Explaining.{Explains, IsExplained, MayRun, calls_left}
use Rattle.hp_explain.specs.declared.observed.ObservedLine.{ObservedLine}

-- the marks of a place: its number of calls, then the last refusals of the plans in progress, as
-- numbers
abbrev pub IsMarked : Setting → List Record → List ℕ → Type 0
IsMarked g news numbers =
    (causes : List ℕ) × (numbers ≡ length news ∷ causes)
    × AreCausedBelow g (length g.scripts) news causes

-- the processor's next line may run after the schedule
abbrev pub MayRunAfter : Setting → List (List ObservedLine) → List ℕ → (cpu : ℕ) → Type 0
MayRunAfter g seen schedule cpu =
    (news : List Record) × (plays g schedule ≡ Some news) × MayRun g seen news cpu

-- the aim of the search: it seeks the orders that explain the observed answers, and the explained
-- beginnings that are longer than the longest known one. The search returns only an order that explains
-- all answers. `room` is the number of further calls that can be recorded
abbrev pub aim_of : Setting → List (List ObservedLine) → (room : ℕ) → (longest : List ℕ) → AimValue
aim_of g seen room longest = record {
  sought = λ s. Explains g seen s ⊎ (IsExplained g seen s × (length longest < length s));
  found = λ s. Explains g seen s;
  admits = λ s. IsExplained g seen s × (room ≡ calls_left g);
  tries = λ s cpu. MayRunAfter g seen s cpu × (length s < room);
  marks = λ news numbers. IsMarked g news numbers;
  is_whole = ⊥;
}

-- the observed answers and the room stay the same. The longest known beginning gets no shorter, and it
-- stays explained
abbrev pub Becomes : Setting → (seen : List (List ObservedLine)) → (room : ℕ) → (longest : List ℕ)
    → (later : List (List ObservedLine)) → (left : ℕ) → (new : List ℕ) → Type 0
Becomes g seen room longest later left new =
    (later ≡ seen) × (left ≡ room) × (length longest ≤ length new)
    × (IsExplained g seen longest → IsExplained g seen new)
