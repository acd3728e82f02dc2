-- The promises of the sum of parts.
use Rattle.std.specs.Prelude.{◌≡◌, ℕ, ◌<◌, Bool, List, None, length, sum_by}
use Rattle.hp_schedules.specs.declared.tally.Ending.{Ending}
use Rattle.hp_schedules.specs.Ends.{AreEnds, AreInOrder}
use Rattle.hp_schedules.specs.Schedules.{Setting}
use Rattle.hp_search.specs.Ends.{AreEndsTold}
use Rattle.hp_search.specs.Holding.{HoldsIn}
use Rattle.hp_search.specs.declared.forms.EndsForm.{EndsForm}
use Rattle.hp_parts.specs.Adding.{AreAdded, counted_by}
use Rattle.hp_parts.specs.AllParts.{AreApart, AreParts}
use Rattle.hp_scenario.specs.declared.lines.Line.{Line}
use Rattle.hp_parts.specs.Ordering.{AreAll}
use Rattle.hp_parts.specs.Gathering.{PartEndsValue}
use Rattle.hp_parts.specs.Heads.{HeadValue, SearchValue}
use Rattle.hp_parts.specs.Faults.{BeginsWith}
use Rattle.hp_parts.specs.Gathered.{IsGathered}

-- the ends are the sum of the lists, sorted by their first schedules (see Adding), and no two have the
-- same outcome. If there is a list, and the lists have the ends of all parts of a search, the sum has
-- the ends of the whole search
pub record IsSum (lists : List (List Ending)) (ends : List Ending) : Type 0 where
  pub are : (g : Setting) (calls : ℕ) → 0 < length lists → AreParts g calls lists → AreEnds g ends
  pub ordered : (g : Setting) (calls : ℕ) → 0 < length lists → AreParts g calls lists → AreInOrder ends
  pub adds : AreAdded lists ends
  pub apart : AreApart ends
  pub total : sum_by (λ e. e.count) ends ≡ counted_by lists

-- the input is, byte for byte, the text that the search writes for its parts, and each part comes once.
-- Each end has the outcome of its own schedule, which is a complete schedule of its part. The text
-- reports the sum of the ends
pub record IsSumOn (form : EndsForm) (input : List ℕ) (s : SearchValue) (text : List ℕ) (found : Bool)
    (names : List (List ℕ)) (before : List Line) (g : Setting) : Type 0 where
  pub parts : List PartEndsValue
  pub lists : List (List Ending)
  pub ends : List Ending
  pub read : IsGathered names g s input parts
  pub all : AreAll parts s.of lists
  pub sum : IsSum lists ends
  pub told : AreEndsTold form names before g ends None text found

-- the text reports the sum for the scenario in the first head
abbrev pub IsSumOf : EndsForm → (input text : List ℕ) → (found : Bool) → Type 0
IsSumOf form input text found =
    (h : HeadValue) × BeginsWith input h
    × HoldsIn (IsSumOn form input h.search text found) h.search.scenario h.search.setup
