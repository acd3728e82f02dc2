-- An exploration that stops before its end: the first schedules in the order of the walk.
use Rattle.std.specs.Prelude.{◌≡◌, ℕ, true, false, List, sum_by}
use Rattle.hp_schedules.specs.Parts.{IsCompleteInPart, PartValue}
use Rattle.hp_schedules.specs.Schedules.{IsComplete, Setting}
use Rattle.hp_states.specs.Walks.{IsPartWalkedBefore, IsWalkedBefore}
use Rattle.hp_explore.specs.declared.exploring.Exploration.{Exploration}
use Rattle.hp_schedules.specs.declared.tally.Ending.{Ending}

-- the number of schedules that the ends count
abbrev pub counted : List Ending → ℕ
counted ends = sum_by (λ e. e.count) ends

-- everything before some complete schedule is walked (IsWalkedBefore). The ends count all complete
-- schedules before that one, `many` in number
pub record AreFirst (g : Setting) (many : ℕ) (ends : List Ending) : Type 0 where
  pub place : List ℕ
  pub next : IsComplete g place
  pub walked : IsWalkedBefore g place ends
  pub full : counted ends ≡ many

-- everything of the part before some complete schedule of the part is walked (IsPartWalkedBefore). The
-- ends count the part's complete schedules before that one, `many` in number
pub record AreFirstInPart (g : Setting) (part : PartValue) (many : ℕ) (ends : List Ending) : Type 0 where
  pub place : List ℕ
  pub next : IsCompleteInPart g part place
  pub walked : IsPartWalkedBefore g part place ends
  pub full : counted ends ≡ many

-- the property P holds of the ends, if all schedules were counted
abbrev pub IfWhole : Exploration → (List Ending → Type 0) → Type 0
IfWhole x P = x.is_whole ≡ true → P x.ends.items

-- the property P holds of the ends, if only the first schedules were counted
abbrev pub IfFirst : Exploration → (List Ending → Type 0) → Type 0
IfFirst x P = x.is_whole ≡ false → P x.ends.items
