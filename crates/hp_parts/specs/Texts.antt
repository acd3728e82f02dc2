-- The text of a part: JSON, one object per line.
use Rattle.std.specs.Prelude.{ℕ, ◌+◌, List, [], ◌∷◌, ◌++◌, length, Option, sum_by}
use Rattle.hp_text.specs.State.{newline}
use Rattle.hp_schedules.specs.declared.multinomials.HowMany.{HowMany}
use Rattle.hp_schedules.specs.declared.tally.Ending.{Ending}
use Rattle.hp_schedules.specs.Schedules.{Setting}
use Rattle.hp_search.specs.Objects.{more_object}
use Rattle.hp_search.specs.Texts.{end_keys}
use Rattle.hp_parts.specs.Heads.{SearchValue, head_line}
use Rattle.hp_parts.specs.Processors.{processor_list}

-- ---- an end

-- the line of end `number`: the object that an exploration writes, with the processors of the end's
-- first schedule
abbrev pub end_line : (names : List (List ℕ)) → Setting → (number : ℕ) → Ending → List ℕ
end_line names g number e = end_keys names g number e ++ processor_list e.first.items

-- one line per end, numbered from `number`
abbrev pub end_lines : (names : List (List ℕ)) → Setting → (number : ℕ) → List Ending → List ℕ
end_lines names g number [] = []
end_lines names g number (e ∷ ends) =
    end_line names g number e ++ newline ++ end_lines names g (number + 1) ends

-- ---- a part

-- a part's head, with `named` as its number of ends, and its ends so far
abbrev pub begun_lines : (names : List (List ℕ)) → Setting → SearchValue → (number named : ℕ) → List Ending
    → List ℕ
begun_lines names g s number named ends = head_line s number named ++ newline ++ end_lines names g 1 ends

-- a part's head and all its ends
abbrev pub part_lines : (names : List (List ℕ)) → Setting → SearchValue → (number : ℕ) → List Ending → List ℕ
part_lines names g s number ends = begun_lines names g s number (length ends) ends

-- a part's head and ends. If not all interleavings were counted, an object follows with the number of
-- those that were, and the number of all (`null` if it is not known)
abbrev pub part_text : (names : List (List ℕ)) → Setting → SearchValue → (number : ℕ) → List Ending
    → Option HowMany → List ℕ
part_text names g s number ends more =
    part_lines names g s number ends ++ more_object (sum_by (λ e. e.count) ends) more
