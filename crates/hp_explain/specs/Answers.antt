-- The answers of processors, line by line, as a run prints them.
use Rattle.std.specs.Prelude.{◌≡◌, ◌⊎◌, ℕ, ◌+◌, ◌==◌, suc, Bool, true, false, List, [], ◌∷◌, ◌++◌, codes, drop, length, map, if◌then◌else◌}
use Rattle.std.specs.Char.{is_ascii_whitespace}
use Rattle.std.specs.Fmt.{decimal}
use Rattle.std.specs.List.{list_all}
use Rattle.std.specs.Str.Lines.{lines}
use Rattle.hp_units.specs.Texts.{reply_text}
use Rattle.hp_text.specs.Plans.{end_words}
use Rattle.hp_schedules.specs.declared.line_answers.LineAnswer.{LineAnswer}
use Rattle.hp_schedules.specs.declared.line_answers.LineAnswer.TheVariants.{Reply as Replied, Plan as Carried}
use Rattle.hp_explain.specs.declared.observed.ObservedLine.{ObservedLine}

-- ---- the text of an answer

-- the text of an answer: either a reply to a call, or the end of a plan
abbrev pub answer_text : LineAnswer → List ℕ
answer_text (Replied reply) = reply_text reply
answer_text (Carried end) = codes "plan: " ++ end_words end

-- ---- the lines of a run

-- a processor's heading
abbrev pub heading : (cpu : ℕ) → List ℕ
heading cpu = codes "cpu " ++ decimal cpu

-- the text of each answer
abbrev pub seen_lines : List ObservedLine → List (List ℕ)
seen_lines seen = map (λ one. answer_text one.answer) seen

-- a processor's heading and its answers
abbrev pub script_lines : (cpu : ℕ) → List ObservedLine → List (List ℕ)
script_lines cpu seen = heading cpu ∷ seen_lines seen

-- the headings and answers of all processors from this one on
abbrev pub run_lines : (cpu : ℕ) → List (List ObservedLine) → List (List ℕ)
run_lines cpu [] = []
run_lines cpu (seen ∷ later) = script_lines cpu seen ++ run_lines (suc cpu) later

-- the text reports a number of records
abbrev pub IsRecords : List ℕ → Type 0
IsRecords text = (count : ℕ) × (text ≡ decimal count ++ codes " records")

-- the line is empty
abbrev pub is_empty : List ℕ → Bool
is_empty [] = true
is_empty (b ∷ bs) = false

-- all lines are empty
abbrev pub are_empty : List (List ℕ) → Bool
are_empty texts = list_all is_empty texts

-- the lines after the answers: the number of records, if it is there, and then empty lines
abbrev pub AreLast : List (List ℕ) → Type 0
AreLast [] = Unit {0}
AreLast (text ∷ rest) = (are_empty (text ∷ rest) ≡ true) ⊎ (IsRecords text × (are_empty rest ≡ true))

-- an answer without times
abbrev pub untimed : LineAnswer → ObservedLine
untimed answer = record { answer = answer; from = 0; to = 18446744073709551615 }

-- the answer of a line without its times
abbrev pub without_times : ObservedLine → ObservedLine
without_times one = untimed one.answer

-- no times are known of a processor's answers
abbrev pub AreUntimed : List ObservedLine → Type 0
AreUntimed seen = map without_times seen ≡ seen

-- no times are known of any answer
abbrev pub AreAllUntimed : List (List ObservedLine) → Type 0
AreAllUntimed seen = map (map without_times) seen ≡ seen

-- one more answer was appended, without times
abbrev pub IsPushed : (old : List ObservedLine) → (text : List ℕ) → (new : List ObservedLine) → Type 0
IsPushed old text new =
    (answer : LineAnswer) × (text ≡ answer_text answer) × (new ≡ old ++ untimed answer ∷ [])

-- the first lines of `rest` are a processor's heading and `count` answers, whose times are not known
abbrev pub IsScriptAt : (rest : List (List ℕ)) → (cpu count : ℕ) → List ObservedLine → Type 0
IsScriptAt rest cpu count seen =
    (rest ≡ script_lines cpu seen ++ drop (count + 1) rest) × (length seen ≡ count) × AreUntimed seen

-- the lines are a run's output with these answers, whose times are not known
abbrev pub AreRun : List (List ℕ) → List (List ObservedLine) → Type 0
AreRun texts seen =
    (rest : List (List ℕ)) × (texts ≡ run_lines 0 seen ++ rest) × AreLast rest × AreAllUntimed seen

-- the text is a run's output with these answers
abbrev pub IsRunText : (input : List ℕ) → List (List ObservedLine) → Type 0
IsRunText input seen = AreRun (lines input) seen

-- ---- objects

-- the first byte that is not white space opens an object
abbrev pub are_objects : List ℕ → Bool
are_objects [] = false
are_objects (b ∷ bs) = if is_ascii_whitespace b then are_objects bs else b == 123
