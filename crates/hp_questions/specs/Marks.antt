-- The wanted lines that the records have so far, as numbers, and when no later end can meet all of
-- them.
use Rattle.std.specs.Prelude.{◌≡◌, ◌⊎◌, ◌↔◌, ℕ, ◌<◌, Bool, true, false, List, [], ◌∷◌, ◌++◌, Some, length, map, slice_get}
use Rattle.std.specs.List.{list_all, range_with_len}
use Rattle.hp_units.specs.LayoutParts.{LayoutParts}
use Rattle.hp_units.specs.Memory.{Memory}
use Rattle.hp_units.specs.declared.replies.Record.{Record}
use Rattle.hp_units.specs.declared.replies.OpEnd.{OpEnd}
use Rattle.hp_units.specs.declared.replies.Reply.{Reply}
use Rattle.hp_questions.specs.PlanEnds.{all_plan_ends, plan_ends_of}
use Rattle.hp_schedules.specs.Outcomes.{outcome, replies_below, replies_to}
use Rattle.hp_schedules.specs.declared.scripts.Step.{Step}
use Rattle.hp_questions.specs.PlanLines.{HasPlanEnd}
use Rattle.hp_questions.specs.Wanted.{HasAnswer, HasAnswerAt, Meets}
use Rattle.hp_questions.specs.Patterns.{IsAsWanted}
use Rattle.hp_questions.specs.declared.wanted.EndLine.{EndLine}
use Rattle.hp_questions.specs.declared.wanted.EndLine.TheVariants.{Answer, AnswerAt, Plan, Block}
use Rattle.hp_questions.specs.declared.wanted.Wanted.{Wanted}
use Rattle.hp_questions.specs.declared.wanted.Wanted.TheVariants.{Has, Lacks}

-- the line that an end is to have or to lack
abbrev pub line_of : Wanted → EndLine
line_of (Has line) = line
line_of (Lacks line) = line

-- the line is not about plans
abbrev pub leaves_plans : EndLine → Bool
leaves_plans (Plan cpu end) = false
leaves_plans line = true

-- no wanted line is about plans
abbrev pub asks_no_plans : List Wanted → Bool
asks_no_plans wanted = list_all (λ one. leaves_plans (line_of one)) wanted

-- the line is not about the place of a reply among those to its processor
abbrev pub leaves_places : EndLine → Bool
leaves_places (AnswerAt cpu earlier reply) = false
leaves_places line = true

-- no wanted line is about the place of a reply
abbrev pub asks_no_places : List Wanted → Bool
asks_no_places wanted = list_all (λ one. leaves_places (line_of one)) wanted

-- a reply so far matches the line, so that every later end has the line. No reply matches a line about a
-- plan or a memory block
abbrev pub HasReplySoFar : (processors : ℕ) → List Record → EndLine → Type 0
HasReplySoFar processors news (Plan cpu end) = ⊥
HasReplySoFar processors news (Block block row) = ⊥
HasReplySoFar processors news (Answer cpu reply) = HasAnswer reply (replies_below processors news) cpu
HasReplySoFar processors news (AnswerAt cpu earlier reply) =
    HasAnswerAt reply (replies_below processors news) cpu earlier

-- either a reply so far matches the line, or a finished plan ended as the line wants
abbrev pub HasLineSoFar : (cpus : ℕ) → (scripts : List (List Step)) → (processors : ℕ) → List Record → EndLine
    → Type 0
HasLineSoFar cpus scripts processors news (Plan cpu end) =
    HasPlanEnd end (all_plan_ends cpus scripts (replies_below processors news)) cpu
HasLineSoFar cpus scripts processors news line = HasReplySoFar processors news line

-- `met` has one number for each of the first `lines` wanted lines: 1 if the records have the line
-- so far, else 0. This is also so for a line that an end is to lack
abbrev pub AreMet : (cpus : ℕ) → (scripts : List (List Step)) → List Wanted → (processors : ℕ) → List Record
    → (lines : ℕ) → List ℕ → Type 0
AreMet cpus scripts wanted processors news lines met =
    (length met ≡ lines)
    × ((k : ℕ) (one : Wanted) → k < lines → slice_get wanted k ≡ Some one
    → (n : ℕ) × (slice_get met k ≡ Some n)
    × ((n ≡ 1) ↔ HasLineSoFar cpus scripts processors news (line_of one)) × ((n ≡ 0) ⊎ (n ≡ 1)))

-- each processor's number of replies; nothing if no wanted line is about the place of a reply
abbrev pub AreCountedIf : (none : Bool) → (processors : ℕ) → List Record → List ℕ → Type 0
AreCountedIf true processors news counts = counts ≡ []
AreCountedIf false processors news counts =
    counts ≡ map (λ cpu. length (replies_to cpu news)) (range_with_len 0 processors)

-- the marks of the place in a search to which the records lead: how many records there are, each
-- processor's number of replies if a wanted line is about the place of one, and then, for each wanted
-- line, 1 if the records have the line so far, else 0. This is also so for a line that an end is to lack
pub record AreMarks (cpus : ℕ) (scripts : List (List Step)) (wanted : List Wanted) (processors : ℕ)
    (news : List Record) (marks : List ℕ) : Type 0 where
  pub counts : List ℕ
  pub met : List ℕ
  pub parts : marks ≡ length news ∷ (counts ++ met)
  pub counts_are : AreCountedIf (asks_no_places wanted) processors news counts
  pub met_are : AreMet cpus scripts wanted processors news (length wanted) met

-- for each script, the records `more` add the same ends of plans after `first` and after `second`
abbrev pub PlansGoOn : (cpus : ℕ) → (scripts : List (List Step)) → (processors : ℕ)
    → (first second more : List Record) → Type 0
PlansGoOn cpus scripts processors first second more =
    (cpu : ℕ) → cpu < length scripts → (later : List OpEnd)
    × (plan_ends_of cpus scripts (replies_below processors (first ++ more)) cpu
    ≡ plan_ends_of cpus scripts (replies_below processors first) cpu ++ later)
    × (plan_ends_of cpus scripts (replies_below processors (second ++ more)) cpu
    ≡ plan_ends_of cpus scripts (replies_below processors second) cpu ++ later)

-- the line is about a processor's n-th reply, and this reply has come and does not match
abbrev pub IsMissed : List Record → EndLine → Type 0
IsMissed news (Answer cpu reply) = ⊥
IsMissed news (AnswerAt cpu earlier reply) =
    (answer : Reply) × (slice_get (replies_to cpu news) earlier ≡ Some answer) × (IsAsWanted reply answer → ⊥)
IsMissed news (Plan cpu end) = ⊥
IsMissed news (Block block row) = ⊥

-- the records show that no later end can meet the wanted line
abbrev pub IsRuledOut : (processors : ℕ) → List Record → Wanted → Type 0
IsRuledOut processors news (Has line) = IsMissed news line
IsRuledOut processors news (Lacks line) = HasReplySoFar processors news line

-- no end after these records meets all wanted lines
abbrev pub IsLost : (cpus : ℕ) → (scripts : List (List Step)) → List Wanted → (processors : ℕ) → List Record
    → Type 0
IsLost cpus scripts wanted processors news =
    (more : List Record) (l : LayoutParts) (s : Memory)
    → Meets cpus scripts wanted (outcome processors (news ++ more) l s) → ⊥
