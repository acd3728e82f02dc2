-- The text of ends, in each form.
use Rattle.std.specs.Prelude.{◌≡◌, ◌⊎◌, ℕ, ◌+◌, ◌-◌, ◌^◌, ◌<◌, Bool, true, false, List, [], length, Option, Some, None, slice_get}
use Rattle.std.specs.Option.{is_none}
use Rattle.hp_explore.specs.declared.exploring.Exploration.{Exploration}
use Rattle.hp_schedules.specs.declared.multinomials.HowMany.{HowMany}
use Rattle.hp_schedules.specs.declared.scripts.Step.{Step}
use Rattle.hp_schedules.specs.declared.tally.Ending.{Ending}
use Rattle.hp_schedules.specs.Interleavings.{IsKnown}
use Rattle.hp_schedules.specs.Schedules.{Setting}
use Rattle.hp_scenario.specs.declared.lines.Line.{Line}
use Rattle.hp_search.specs.declared.forms.EndsForm.{EndsForm}
use Rattle.hp_search.specs.declared.forms.EndsForm.TheVariants.{Words, Objects, Scenario, Summary}
use Rattle.hp_search.specs.Summaries.{IsSummary}
use Rattle.hp_search.specs.Texts.{all_objects_text, exploration_text, replay_text}

-- `e` is the end with this number, counted from 1
pub record IsNumbered (ends : List Ending) (number : ℕ) (e : Ending) : Type 0 where
  pub place : ℕ
  pub counted : number ≡ place + 1
  pub here : slice_get ends place ≡ Some e

-- no end has this number
abbrev pub HasNoEnd : List Ending → (number : ℕ) → Type 0
HasNoEnd ends number = (number ≡ 0) ⊎ (length ends < number)

-- either all interleavings were counted (`None`), or `known` describes their number
abbrev pub IsMore : List (List Step) → (is_whole : Bool) → Option HowMany → Type 0
IsMore scripts is_whole None = is_whole ≡ true
IsMore scripts is_whole (Some known) = (is_whole ≡ false) × IsKnown scripts (2 ^ 64 - 1) known

-- the text is the scenario of end `number`: the setup's lines, then the calls of its first
-- schedule. If `found` is false, there is no such end, and the text is empty
abbrev pub IsEndTold : (names : List (List ℕ)) → (before : List Line) → Setting → List Ending
    → (number : ℕ) → (text : List ℕ) → (found : Bool) → Type 0
IsEndTold names before g ends number text true =
    (e : Ending) × IsNumbered ends number e × (text ≡ replay_text names before g e.first.items)
IsEndTold names before g ends number text false = HasNoEnd ends number × (text ≡ [])

-- the text of the ends in a form. For a scenario, `found` is true if there is an end with the
-- number that the form names. For any other form, it is true if all interleavings were counted
abbrev pub AreEndsTold : EndsForm → (names : List (List ℕ)) → (before : List Line) → Setting → List Ending
    → Option HowMany → (text : List ℕ) → (found : Bool) → Type 0
AreEndsTold Words names before g ends more text found =
    (text ≡ exploration_text names g ends more) × (found ≡ is_none more)
AreEndsTold Objects names before g ends more text found =
    (text ≡ all_objects_text names g ends more) × (found ≡ is_none more)
AreEndsTold Summary names before g ends more text found =
    IsSummary ends more text × (found ≡ is_none more)
AreEndsTold (Scenario number) names before g ends more text found =
    IsEndTold names before g ends number text found

-- the text of an exploration in a form
abbrev pub IsTold : EndsForm → (names : List (List ℕ)) → (before : List Line) → Setting → Exploration
    → (text : List ℕ) → (found : Bool) → Type 0
IsTold form names before g x text found =
    (more : Option HowMany) × IsMore g.scripts x.is_whole more
    × AreEndsTold form names before g x.ends.items more text found
