-- Complete schedules of scripts without plans, in plain terms.
use Rattle.std.specs.Prelude.{◌≡◌, ℕ, ◌+◌, ◌<◌, ◌≤◌, ◌^◌, Bool, true, false, List, Option, Some, None, length, map, slice_get}
use Rattle.std.specs.List.{list_all}
use Rattle.std.specs.Option.{option_map_or}
use Rattle.hp_schedules.specs.Multinomials.{IsMultinomial, sum, turns_of}
use Rattle.hp_schedules.specs.Schedules.{Setting}
use Rattle.hp_schedules.specs.declared.multinomials.HowMany.{HowMany}
use Rattle.hp_schedules.specs.declared.multinomials.HowMany.TheVariants.{Exactly, MoreThanLimit, Unknown}
use Rattle.hp_schedules.specs.declared.scripts.Step.{Step}
use Rattle.hp_schedules.specs.declared.scripts.Step.TheVariants.{Ask, Own, Carry}

-- the line is one call
abbrev pub is_one_call : Step → Bool
is_one_call (Ask event) = true
is_one_call (Own work) = true
is_one_call (Carry plan turns) = false

-- each line of a script is one call
abbrev pub holds_no_plan : List Step → Bool
holds_no_plan lines = list_all is_one_call lines

-- each line of all scripts is one call
abbrev pub AreOneCalls : List (List Step) → Type 0
AreOneCalls scripts = list_all holds_no_plan scripts ≡ true

-- the number of lines of a processor's script
abbrev pub script_length : List (List Step) → (cpu : ℕ) → ℕ
script_length scripts cpu = option_map_or (λ lines. length lines) (slice_get scripts cpu) 0

-- the numbers of lines of all scripts, from processor 0 on
abbrev pub script_lengths : List (List Step) → List ℕ
script_lengths scripts = map (λ lines. length lines) scripts

-- each processor occurs in the schedule as often as its script has lines
abbrev pub IsInterleaving : List (List Step) → List ℕ → Type 0
IsInterleaving scripts schedule = (cpu : ℕ) → turns_of cpu schedule ≡ script_length scripts cpu

-- the number is the multinomial coefficient of the scripts' lengths
abbrev pub IsCountOfLengths : List (List Step) → ℕ → Type 0
IsCountOfLengths scripts m = IsMultinomial (script_lengths scripts) m

-- each line is one call, and there are more interleavings than the limit
abbrev pub AreTooMany : List (List Step) → (limit : ℕ) → Type 0
AreTooMany scripts limit = AreOneCalls scripts × ((m : ℕ) → IsCountOfLengths scripts m → limit < m)

-- the number of calls in a complete schedule, if each line is one call; None if a line is a plan, or if
-- there are 2^64 calls or more
abbrev pub IsCallCount : List (List Step) → Option ℕ → Type 0
IsCallCount scripts None = AreOneCalls scripts → 2 ^ 64 ≤ sum (script_lengths scripts)
IsCallCount scripts (Some calls) = AreOneCalls scripts × (calls ≡ sum (script_lengths scripts))

-- the number of records that the history must have room for: the records at the start and one per line,
-- if each line is one call; None if a line is a plan, or if there are 2^64 records or more
abbrev pub IsRoomNeeded : Setting → Option ℕ → Type 0
IsRoomNeeded g None =
    AreOneCalls g.scripts → 2 ^ 64 ≤ length g.start + sum (script_lengths g.scripts)
IsRoomNeeded g (Some needed) =
    AreOneCalls g.scripts × (needed ≡ length g.start + sum (script_lengths g.scripts))

-- the number of complete schedules, as far as it is known before any call: either the number, if it
-- is within the limit, or that it is above the limit. Nothing is known if a line is a plan or there
-- are 2^64 lines or more
abbrev pub IsKnown : List (List Step) → (limit : ℕ) → HowMany → Type 0
IsKnown scripts limit (Exactly m) = AreOneCalls scripts × IsCountOfLengths scripts m × (m ≤ limit)
IsKnown scripts limit MoreThanLimit = AreTooMany scripts limit
IsKnown scripts limit Unknown = AreOneCalls scripts → 2 ^ 64 ≤ sum (script_lengths scripts)
