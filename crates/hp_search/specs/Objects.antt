-- Ends, and a schedule that was found, as JSON, one object per line.
use Rattle.std.specs.Prelude.{ℕ, true, List, [], ◌++◌, codes, Option, Some, None}
use Rattle.std.specs.Fmt.{decimal}
use Rattle.hp_units.specs.Texts.{reply_text}
use Rattle.hp_units.specs.declared.replies.Record.{Record}
use Rattle.hp_units.specs.declared.replies.Reply.{Reply}
use Rattle.hp_units.specs.declared.rows.Row.{Row}
use Rattle.hp_text.specs.State.{state_words}
use Rattle.hp_schedules.specs.declared.multinomials.HowMany.{HowMany}
use Rattle.hp_schedules.specs.declared.multinomials.HowMany.TheVariants.{Exactly, MoreThanLimit, Unknown}
use Rattle.hp_schedules.specs.declared.tally.Ending.{Ending}
use Rattle.hp_text.specs.Entries.{calls_text}
use Rattle.hp_text.specs.Separated.{separated}

-- ---- an end

-- a reply between quotation marks
abbrev pub reply_string : Reply → List ℕ
reply_string reply = codes "\"" ++ reply_text reply ++ codes "\""

-- the list of a processor's replies
abbrev pub answer_list : List Reply → List ℕ
answer_list replies = codes "[" ++ separated (codes ", ") reply_string true replies ++ codes "]"

-- a memory block's state between quotation marks
abbrev pub block_string : Row → List ℕ
block_string row = codes "\"" ++ state_words row.state row.zone ++ codes "\""

-- the calls of a schedule; nothing if it cannot be played
abbrev pub played_list : (names : List (List ℕ)) → (calls : Option (List Record)) → List ℕ
played_list names None = []
played_list names (Some calls) = calls_text (codes ", ") names calls

-- an end's object without its closing bracket: its number, its count, the replies from processor 0
-- on, the states from block 0 on, and the calls of its first interleaving
abbrev pub keys_text : (names : List (List ℕ)) → (number : ℕ) → Ending → (calls : Option (List Record))
    → List ℕ
keys_text names number e calls =
    codes "{\"end\": " ++ decimal number ++ codes ", \"interleavings\": " ++ decimal e.count
    ++ codes ", \"answers\": [" ++ separated (codes ", ") answer_list true e.outcome.replies
    ++ codes "], \"blocks\": [" ++ separated (codes ", ") block_string true e.outcome.blocks
    ++ codes "], \"first\": [" ++ played_list names calls ++ codes "]"

-- ---- the number of interleavings

-- the number of interleavings; `null` if it is not known
abbrev pub known_number : HowMany → List ℕ
known_number (Exactly count) = decimal count
known_number MoreThanLimit = codes "null"
known_number Unknown = codes "null"

-- an object with the number of interleavings that were counted, and the number of all
abbrev pub first_object : (counted : ℕ) → HowMany → List ℕ
first_object counted known =
    codes "{\"first\": " ++ decimal counted ++ codes ", \"interleavings\": " ++ known_number known
    ++ codes "}\n"

-- an object with the number of interleavings that were counted, and the number of all; nothing if
-- all were counted
abbrev pub more_object : (counted : ℕ) → Option HowMany → List ℕ
more_object counted None = []
more_object counted (Some known) = first_object counted known

-- ---- a schedule that was found

-- the object of a schedule that was found
abbrev pub found_object : (names : List (List ℕ)) → (changes : ℕ) → (calls : Option (List Record)) → List ℕ
found_object names changes calls =
    codes "{\"found\": true, \"changes\": " ++ decimal changes ++ codes ", \"first\": ["
    ++ played_list names calls ++ codes "]}\n"
