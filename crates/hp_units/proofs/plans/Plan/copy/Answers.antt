-- The items copied are those of the plan.
use Rattle.std.proofs.Common.{◌≡◌, ◌∙◌, ap, Global, IfOk, List, Vec, subst}
use Rattle.hp_units.specs.declared.plans.Item.{Item}
use Rattle.hp_units.proofs.plans.Plan.copy.Goals as goal

pub returns : goal.returns
returns c =
    subst (λ (xs : List Item). IfOk c.new.result (λ (plan : List Item). plan ≡ xs))
    (c.in_ok-items.ensures.items
    ∙ (c.as_slice.ensures.value
    ∙ (ap (λ (v : Vec Item Global). v.items) c.deref.ensures ∙ c.self.view_is))) c.new.ensures
