-- Ends, and a schedule that was found, as words.
use Rattle.std.specs.Prelude.{ℕ, List, [], ◌∷◌, ◌++◌, codes, Option, Some, None, length, slice_get, sum_by}
use Rattle.std.specs.Fmt.{decimal}
use Rattle.std.specs.List.{flat_map}
use Rattle.hp_units.specs.LayoutParts.{LayoutParts}
use Rattle.hp_units.specs.declared.replies.Record.{Record}
use Rattle.hp_units.specs.declared.replies.Reply.{Reply}
use Rattle.hp_units.specs.declared.rows.Row.{Row}
use Rattle.hp_text.specs.Answers.{bare_reply_line}
use Rattle.hp_text.specs.State.{block_line, newline, texts_below}
use Rattle.hp_schedules.specs.declared.multinomials.HowMany.{HowMany}
use Rattle.hp_schedules.specs.declared.multinomials.HowMany.TheVariants.{Exactly, MoreThanLimit, Unknown}
use Rattle.hp_schedules.specs.declared.tally.Ending.{Ending}
use Rattle.hp_text.specs.Entries.{calls_text}

-- ---- the outcome

-- the text of a processor's number and its replies; empty for None
abbrev pub answers_text : (cpu : ℕ) → Option (List Reply) → List ℕ
answers_text cpu None = []
answers_text cpu (Some replies) = codes "cpu " ++ decimal cpu ++ newline ++ flat_map bare_reply_line replies

-- the text of all processors' replies, from processor 0 on
abbrev pub processors_text : (cpus : ℕ) → List (List Reply) → List ℕ
processors_text cpus replies = texts_below (λ cpu. answers_text cpu (slice_get replies cpu)) cpus

-- the text of the memory blocks' states
abbrev pub blocks_text : (blocks : ℕ) → List Row → List ℕ
blocks_text blocks rows = texts_below (λ block. block_line block (slice_get rows block)) blocks

-- ---- the calls

-- the calls of a schedule as strings of a scenario's `calls`, one per line, with commas between them;
-- nothing if the schedule cannot be played
abbrev pub played_text : (names : List (List ℕ)) → (calls : Option (List Record)) → List ℕ
played_text names None = []
played_text names (Some []) = []
played_text names (Some (r ∷ rs)) = calls_text (codes ",\n") names (r ∷ rs) ++ newline

-- ---- an end

-- an empty line, the end's number, its count, its outcome, and the calls of its first interleaving
abbrev pub end_text : (names : List (List ℕ)) → LayoutParts → (number : ℕ) → Ending
    → (calls : Option (List Record)) → List ℕ
end_text names l number e calls =
    codes "\nend " ++ decimal number ++ codes "\ninterleavings: " ++ decimal e.count ++ newline
    ++ processors_text l.cpus e.outcome.replies ++ blocks_text l.blocks e.outcome.blocks ++ codes "first:\n"
    ++ played_text names calls

-- ---- the numbers of interleavings and ends

-- how many interleavings there are, if only `counted` were counted: the number if it is known, and
-- otherwise that there are more than `counted`
abbrev pub many_text : (counted : ℕ) → HowMany → List ℕ
many_text counted (Exactly count) = decimal count ++ codes " interleavings"
many_text counted MoreThanLimit = codes "more than " ++ decimal counted ++ codes " interleavings"
many_text counted Unknown = codes "more than " ++ decimal counted ++ codes " interleavings"

-- how many interleavings there are and, if not all were counted, how many were
abbrev pub total_text : (counted : ℕ) → Option HowMany → List ℕ
total_text counted None = codes "interleavings: " ++ decimal counted
total_text counted (Some known) =
    many_text counted known ++ codes "; these are the first " ++ decimal counted

-- the numbers of interleavings and ends
abbrev pub counts_text : List Ending → Option HowMany → List ℕ
counts_text ends more =
    total_text (sum_by (λ e. e.count) ends) more ++ codes "\nends: " ++ decimal (length ends) ++ newline

-- ---- a schedule that was found

-- a schedule that was found: its number of processor changes, and its calls
abbrev pub nearest_text : (names : List (List ℕ)) → (changes : ℕ) → (calls : Option (List Record)) → List ℕ
nearest_text names changes calls =
    codes "changes: " ++ decimal changes ++ codes "\nfirst:\n" ++ played_text names calls
