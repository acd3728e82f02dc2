-- The step of a Begin of a processor that is in the layout.
use Rattle.std.proofs.Common.{◌≡◌, ℕ, ◌<◌, ◌≤◌, Bool, true, false, List, Option, Some, None, refl, ◌∙◌, ap, arith}
use Rattle.std.specs.Prelude.{nat_le}
use Rattle.std.specs.Bool.{then_some}
use Rattle.std.specs.Option.{option_or}
use borrow.Author.Tests.{leb-true}
use Rattle.hp_units.specs.declared.events.Event.{Event}
use Rattle.hp_units.specs.declared.events.Event.TheVariants.{Begin}
use Rattle.hp_units.specs.declared.plans.Item.{Item}
use Rattle.hp_units.specs.declared.replies.Refusal.{Refusal}
use Rattle.hp_units.specs.declared.replies.Refusal.TheVariants.{NoCpu}
use Rattle.hp_units.specs.LayoutParts.{LayoutParts}
use Rattle.hp_units.specs.Choices.{first_some}
use Rattle.hp_units.specs.Memory.{Memory}
use Rattle.hp_units.specs.Refusals.{plan_refusals, refusal_of}
use Rattle.hp_units.specs.Step.{answer, step}
use Rattle.hp_plain.specs.Asked.{opened}

-- a Begin doesn't read its processor
answer-same : (l : LayoutParts) (s : Memory) (serial cpu : ℕ) (plan : List Item) (refusal : Option Refusal)
    → answer l s serial 0 (Begin plan) refusal ≡ answer l s serial cpu (Begin plan) refusal
answer-same l s serial cpu plan None = refl
answer-same l s serial cpu plan (Some refusal) = refl

-- a processor that is in the layout isn't refused
passes : (cpus cpu : ℕ) (past : Bool) (other : Option Refusal) → nat_le cpus cpu ≡ past → cpu < cpus
    → other ≡ option_or (then_some past NoCpu) other
passes cpus cpu false other e below = refl
passes cpus cpu true other e below = let above : cpus ≤ cpu = leb-true cpus cpu e in absurd (omega arith)

-- what a Begin does and replies is its step
pub begins : (l : LayoutParts) (s : Memory) (serial cpu : ℕ) (plan : List Item) (event : Event) → cpu < l.cpus
    → event ≡ Begin plan
    → opened l s serial plan ≡ step l s serial cpu event
unfolding step refusal_of
begins l s serial cpu plan event below e =
    rw e (answer-same l s serial cpu plan (first_some (plan_refusals l s plan)) ∙ ap (answer l s serial cpu
    (Begin plan)) (passes l.cpus cpu (nat_le l.cpus cpu) (first_some (plan_refusals l s plan)) refl below))
