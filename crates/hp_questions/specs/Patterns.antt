-- Patterns for replies.
use Rattle.std.specs.Prelude.{◌≡◌}
use Rattle.hp_units.specs.declared.replies.Refusal.{Refusal}
use Rattle.hp_units.specs.declared.replies.Refusal.TheVariants.{Twice, Busy, NotOnline, NotOffline, Unmovable, NotFree, NotAbsent}
use Rattle.hp_units.specs.declared.replies.Reply.{Reply}
use Rattle.hp_units.specs.declared.replies.Reply.TheVariants.{Refused}
use Rattle.hp_questions.specs.declared.wanted.Pattern.{Pattern}
use Rattle.hp_questions.specs.declared.wanted.Pattern.TheVariants.{Exactly, AnyOf}

-- a refusal with 0 in place of the frame or block that it names
abbrev pub kind_of : Refusal → Refusal
kind_of (Twice block) = Twice 0
kind_of (Busy block) = Busy 0
kind_of (NotOnline block) = NotOnline 0
kind_of (NotOffline block) = NotOffline 0
kind_of (Unmovable frame) = Unmovable 0
kind_of (NotFree frame) = NotFree 0
kind_of (NotAbsent block) = NotAbsent 0
kind_of refusal = refusal

-- the reply is a refusal of the same kind as `wanted`
abbrev pub IsKindOf : Refusal → Reply → Type 0
IsKindOf wanted (Refused refusal) = kind_of refusal ≡ kind_of wanted
IsKindOf wanted reply = ⊥

-- the reply matches the pattern
abbrev pub IsAsWanted : Pattern → Reply → Type 0
IsAsWanted (Exactly wanted) reply = reply ≡ wanted
IsAsWanted (AnyOf wanted) reply = IsKindOf wanted reply
