-- The reply to an event of a processor of the layout, and its effect.
use Rattle.std.specs.Prelude.{ℕ, List}
use Rattle.hp_units.specs.declared.events.Event.{Event}
use Rattle.hp_units.specs.declared.events.Event.TheVariants.{Begin}
use Rattle.hp_units.specs.declared.plans.Item.{Item}
use Rattle.hp_units.specs.Choices.{first_some}
use Rattle.hp_units.specs.LayoutParts.{LayoutParts}
use Rattle.hp_units.specs.Memory.{Memory}
use Rattle.hp_units.specs.Refusals.{event_refusals, plan_refusals}
use Rattle.hp_units.specs.Step.{Answered, answer}

-- the reply to an event and its effect, for a processor of the layout and an event whose step does
-- not depend on its serial
abbrev pub asked : LayoutParts → Memory → (cpu : ℕ) → Event → Answered
asked l s cpu event = answer l s 0 cpu event (first_some (event_refusals l s cpu event))

-- the reply to a Begin and its effect, for a processor of the layout
abbrev pub opened : LayoutParts → Memory → (serial : ℕ) → List Item → Answered
opened l s serial plan = answer l s serial 0 (Begin plan) (first_some (plan_refusals l s plan))
