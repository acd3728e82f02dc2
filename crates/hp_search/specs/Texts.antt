-- The text of ends, each with the calls of its first schedule.
use Rattle.std.specs.Prelude.{ℕ, ◌+◌, List, [], ◌++◌, codes, Option, Some, None, length, slice_get, sum_by}
use Rattle.hp_text.specs.State.{texts_below}
use Rattle.hp_schedules.specs.declared.multinomials.HowMany.{HowMany}
use Rattle.hp_schedules.specs.declared.tally.Ending.{Ending}
use Rattle.hp_schedules.specs.Schedules.{Setting, plays}
use Rattle.hp_scenario.specs.declared.lines.Line.{Line}
use Rattle.hp_search.specs.Objects.{keys_text, more_object}
use Rattle.hp_search.specs.Replays.{replayed_text}
use Rattle.hp_search.specs.Words.{counts_text, end_text}

-- ---- ends as words

-- the text of end `number`, with the calls of its first interleaving; empty if there is no such end
abbrev pub numbered_text : (names : List (List ℕ)) → Setting → (number : ℕ) → Option Ending → List ℕ
numbered_text names g number None = []
numbered_text names g number (Some e) = end_text names g.layout number e (plays g e.first.items)

-- the text of the end at index `place`, whose number is `place` + 1
abbrev pub end_at_text : (names : List (List ℕ)) → Setting → List Ending → (place : ℕ) → List ℕ
end_at_text names g ends place = numbered_text names g (place + 1) (slice_get ends place)

-- the numbers of interleavings and ends, then the ends in order
abbrev pub exploration_text : (names : List (List ℕ)) → Setting → List Ending → Option HowMany → List ℕ
exploration_text names g ends more =
    counts_text ends more ++ texts_below (end_at_text names g ends) (length ends)

-- ---- ends as objects

-- an end's object without its closing bracket
abbrev pub end_keys : (names : List (List ℕ)) → Setting → (number : ℕ) → Ending → List ℕ
end_keys names g number e = keys_text names number e (plays g e.first.items)

-- an end's object
abbrev pub end_object : (names : List (List ℕ)) → Setting → (number : ℕ) → Ending → List ℕ
end_object names g number e = end_keys names g number e ++ codes "}\n"

-- the object of end `number`; empty if there is no such end
abbrev pub numbered_object : (names : List (List ℕ)) → Setting → (number : ℕ) → Option Ending → List ℕ
numbered_object names g number None = []
numbered_object names g number (Some e) = end_object names g number e

-- the object of the end at index `place`, whose number is `place` + 1
abbrev pub object_at : (names : List (List ℕ)) → Setting → List Ending → (place : ℕ) → List ℕ
object_at names g ends place = numbered_object names g (place + 1) (slice_get ends place)

-- the objects of all ends, in order
abbrev pub objects_text : (names : List (List ℕ)) → Setting → List Ending → List ℕ
objects_text names g ends = texts_below (object_at names g ends) (length ends)

-- the objects of all ends. If not all interleavings were counted, an object follows with the number
-- that was counted and the number of all
abbrev pub all_objects_text : (names : List (List ℕ)) → Setting → List Ending → Option HowMany → List ℕ
all_objects_text names g ends more =
    objects_text names g ends ++ more_object (sum_by (λ e. e.count) ends) more

-- ---- a schedule

-- the text of a schedule as a scenario: the setup's lines, then its calls. It is empty if the schedule
-- cannot be played
abbrev pub replay_text : (names : List (List ℕ)) → (before : List Line) → Setting → (schedule : List ℕ)
    → List ℕ
replay_text names before g schedule = replayed_text names before g.layout (plays g schedule)
