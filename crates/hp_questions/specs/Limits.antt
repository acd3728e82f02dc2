-- Wanted lines that name something outside the layout.
use Rattle.std.specs.Prelude.{ℕ, ◌≡◌, ◌+◌, ◌<◌, ◌≤◌, ◌⊎◌, List, Option, Some, None, slice_get}
use Rattle.hp_units.specs.Arithmetic.{frame_count}
use Rattle.hp_units.specs.LayoutParts.{LayoutParts}
use Rattle.hp_units.specs.declared.replies.Refusal.{Refusal}
use Rattle.hp_units.specs.declared.replies.Refusal.TheVariants.{Twice, Busy, NotOnline, NotOffline, Unmovable, NotFree, NotAbsent}
use Rattle.hp_units.specs.declared.replies.Reply.{Reply}
use Rattle.hp_units.specs.declared.replies.Reply.TheVariants.{Frame, Moved, Refused}
use Rattle.hp_questions.specs.declared.plan_lines.EndPattern.{EndPattern}
use Rattle.hp_questions.specs.declared.plan_lines.EndPattern.TheVariants.{Refused as RefusedAs, CancelledAs}
use Rattle.hp_questions.specs.declared.wanted.EndLine.{EndLine}
use Rattle.hp_questions.specs.declared.wanted.EndLine.TheVariants.{Answer, AnswerAt, Plan, Block}
use Rattle.hp_questions.specs.declared.wanted.Pattern.{Pattern}
use Rattle.hp_questions.specs.declared.wanted.Pattern.TheVariants.{Exactly, AnyOf}
use Rattle.hp_questions.specs.declared.wanted.Wanted.{Wanted}
use Rattle.hp_questions.specs.declared.wanted.Wanted.TheVariants.{Has, Lacks}

-- the refusal names a frame or a memory block outside the layout
abbrev pub IsRefusalPast : LayoutParts → Refusal → Type 0
IsRefusalPast l (Twice block) = l.blocks ≤ block
IsRefusalPast l (Busy block) = l.blocks ≤ block
IsRefusalPast l (NotOnline block) = l.blocks ≤ block
IsRefusalPast l (NotOffline block) = l.blocks ≤ block
IsRefusalPast l (NotAbsent block) = l.blocks ≤ block
IsRefusalPast l (Unmovable frame) = frame_count l ≤ frame
IsRefusalPast l (NotFree frame) = frame_count l ≤ frame
IsRefusalPast l refusal = ⊥

-- the reply names a frame or a memory block outside the layout
abbrev pub IsReplyPast : LayoutParts → Reply → Type 0
IsReplyPast l (Frame frame) = frame_count l ≤ frame
IsReplyPast l (Moved from to) = (frame_count l ≤ from) ⊎ (frame_count l ≤ to)
IsReplyPast l (Refused refusal) = IsRefusalPast l refusal
IsReplyPast l reply = ⊥

-- the pattern names something outside the layout; a pattern for a kind of refusals names nothing
abbrev pub IsPatternPast : LayoutParts → Pattern → Type 0
IsPatternPast l (Exactly reply) = IsReplyPast l reply
IsPatternPast l (AnyOf refusal) = ⊥

-- either the layout has no processor `cpu`, or the pattern names something outside the layout
abbrev pub IsAnswerPast : LayoutParts → (cpu : ℕ) → Pattern → Type 0
IsAnswerPast l cpu reply = (l.cpus ≤ cpu) ⊎ IsPatternPast l reply

-- the pattern for the end of a plan names something outside the layout
abbrev pub IsEndPast : LayoutParts → EndPattern → Type 0
IsEndPast l (RefusedAs refusal) = IsPatternPast l refusal
IsEndPast l (CancelledAs (Some refusal) restored) = IsPatternPast l refusal
IsEndPast l end = ⊥

-- either `cpu` names a processor that the layout does not have, or the pattern for the end of a plan
-- names something outside the layout
abbrev pub IsPlanPast : LayoutParts → (cpu : Option ℕ) → EndPattern → Type 0
IsPlanPast l None end = IsEndPast l end
IsPlanPast l (Some cpu) end = (l.cpus ≤ cpu) ⊎ IsEndPast l end

-- the line names something outside the layout
abbrev pub IsLinePast : LayoutParts → EndLine → Type 0
IsLinePast l (Answer None reply) = IsPatternPast l reply
IsLinePast l (Answer (Some cpu) reply) = IsAnswerPast l cpu reply
IsLinePast l (AnswerAt cpu earlier reply) = IsAnswerPast l cpu reply
IsLinePast l (Plan cpu end) = IsPlanPast l cpu end
IsLinePast l (Block block row) = l.blocks ≤ block

-- the wanted line, which an end is to have or to lack, names something outside the layout
abbrev pub IsPast : LayoutParts → Wanted → Type 0
IsPast l (Has line) = IsLinePast l line
IsPast l (Lacks line) = IsLinePast l line

-- no line names anything outside the layout
abbrev pub AreWithin : LayoutParts → List Wanted → Type 0
AreWithin l wanted = (k : ℕ) (line : Wanted) → slice_get wanted k ≡ Some line → IsPast l line → ⊥

-- the wanted line with this number, counted from 1, is the first that names something outside the
-- layout
pub record IsFirstPast (l : LayoutParts) (wanted : List Wanted) (number : ℕ) : Type 0 where
  pub place : ℕ
  pub line : Wanted
  pub counted : number ≡ place + 1
  pub found : slice_get wanted place ≡ Some line
  pub past : IsPast l line
  pub first : (k : ℕ) (other : Wanted) → k < place → slice_get wanted k ≡ Some other → IsPast l other → ⊥
