-- The lines that are wanted of an end, and the ends that meet them.
use Rattle.std.specs.Prelude.{◌≡◌, ℕ, List, Option, Some, None, slice_get}
use Rattle.hp_units.specs.declared.replies.Reply.{Reply}
use Rattle.hp_questions.specs.PlanEnds.{all_plan_ends}
use Rattle.hp_schedules.specs.Outcomes.{OutcomeValue}
use Rattle.hp_schedules.specs.declared.scripts.Step.{Step}
use Rattle.hp_questions.specs.Patterns.{IsAsWanted}
use Rattle.hp_questions.specs.PlanLines.{HasPlanEnd}
use Rattle.hp_questions.specs.declared.wanted.EndLine.{EndLine}
use Rattle.hp_questions.specs.declared.wanted.EndLine.TheVariants.{Answer, AnswerAt, Plan, Block}
use Rattle.hp_questions.specs.declared.wanted.Pattern.{Pattern}
use Rattle.hp_questions.specs.declared.wanted.Wanted.{Wanted}
use Rattle.hp_questions.specs.declared.wanted.Wanted.TheVariants.{Has, Lacks}

-- one of a processor's replies matches the pattern
abbrev pub HasReply : Pattern → List Reply → Type 0
HasReply wanted replies =
    (at : ℕ) × (reply : Reply) × (slice_get replies at ≡ Some reply) × IsAsWanted wanted reply

-- one of this processor's replies matches; without a processor, one of any processor's replies does
abbrev pub HasAnswer : Pattern → List (List Reply) → (cpu : Option ℕ) → Type 0
HasAnswer wanted all None =
    (cpu : ℕ) × (replies : List Reply) × (slice_get all cpu ≡ Some replies) × HasReply wanted replies
HasAnswer wanted all (Some cpu) =
    (replies : List Reply) × (slice_get all cpu ≡ Some replies) × HasReply wanted replies

-- the reply after `earlier` others matches the pattern
abbrev pub HasReplyAt : Pattern → List Reply → (earlier : ℕ) → Type 0
HasReplyAt wanted replies earlier =
    (reply : Reply) × (slice_get replies earlier ≡ Some reply) × IsAsWanted wanted reply

-- this processor's reply after `earlier` others matches the pattern
abbrev pub HasAnswerAt : Pattern → List (List Reply) → (cpu earlier : ℕ) → Type 0
HasAnswerAt wanted all cpu earlier =
    (replies : List Reply) × (slice_get all cpu ≡ Some replies) × HasReplyAt wanted replies earlier

-- the outcome of these scripts has the line; `cpus` is the layout's number of processors
abbrev pub HasLine : (cpus : ℕ) → (scripts : List (List Step)) → OutcomeValue → EndLine → Type 0
HasLine cpus scripts x (Answer cpu reply) = HasAnswer reply x.replies cpu
HasLine cpus scripts x (AnswerAt cpu earlier reply) = HasAnswerAt reply x.replies cpu earlier
HasLine cpus scripts x (Plan cpu end) = HasPlanEnd end (all_plan_ends cpus scripts x.replies) cpu
HasLine cpus scripts x (Block block row) = slice_get x.blocks block ≡ Some row

-- the outcome meets the wanted line: it either has or lacks the line, as wanted
abbrev pub IsMetBy : (cpus : ℕ) → (scripts : List (List Step)) → OutcomeValue → Wanted → Type 0
IsMetBy cpus scripts x (Has line) = HasLine cpus scripts x line
IsMetBy cpus scripts x (Lacks line) = HasLine cpus scripts x line → ⊥

-- the outcome meets all wanted lines
abbrev pub Meets : (cpus : ℕ) → (scripts : List (List Step)) → List Wanted → OutcomeValue → Type 0
Meets cpus scripts wanted x =
    (k : ℕ) (one : Wanted) → slice_get wanted k ≡ Some one → IsMetBy cpus scripts x one
