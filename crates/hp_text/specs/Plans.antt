-- The text of the end of a plan.
use Rattle.std.specs.Prelude.{ℕ, Bool, true, false, List, ◌++◌, Option, Some, None, codes}
use Rattle.std.specs.Fmt.{decimal}
use Rattle.hp_units.specs.Texts.{call_fault_text, refusal_text}
use Rattle.hp_units.specs.declared.replies.Refusal.{Refusal}
use Rattle.hp_units.specs.declared.replies.OpEnd.{OpEnd}
use Rattle.hp_units.specs.declared.replies.OpEnd.TheVariants.{Done, Refused, Cancelled, Undone, Left}
use Rattle.hp_text.specs.State.{newline}

-- the last refusal, or a dash if there is none
abbrev pub why_text : Option Refusal → List ℕ
why_text None = codes "-"
why_text (Some refusal) = refusal_text refusal

-- what a Cancel did
abbrev pub cancel_word : (restored : Bool) → List ℕ
cancel_word true = codes "restored"
cancel_word false = codes "released"

-- an operation's number, or a dash if there is none
abbrev pub operation_text : Option ℕ → List ℕ
operation_text None = codes "-"
operation_text (Some op) = decimal op

-- the end of a plan
abbrev pub end_words : OpEnd → List ℕ
end_words Done = codes "done"
end_words (Refused refusal) = codes "refused " ++ refusal_text refusal
end_words (Cancelled why restored) = codes "cancelled " ++ why_text why ++ codes " " ++ cancel_word restored
end_words Undone = codes "undone"
end_words (Left op fault) = codes "left " ++ operation_text op ++ codes " " ++ call_fault_text fault

-- the line of a plan's end
abbrev pub plan_line : OpEnd → List ℕ
plan_line end = codes "plan: " ++ end_words end ++ newline
