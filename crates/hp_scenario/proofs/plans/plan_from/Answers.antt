use Rattle.std.proofs.Common.{Some, refl, sym, ap, ◌∙◌}
use Rattle.std.proofs.lemmas.Bool.{eqb-true}
use Rattle.hp_scenario.proofs.PlanItems.{item_goes_on, item_stops, one_left, none_left}
use Rattle.hp_scenario.proofs.plans.plan_from.Goals as goal

pub returns-in_default-item_from : goal.returns-in_default-item_from
returns-in_default-item_from c =
    item_stops c.loop-rest.rest.now _ _ c.item_from.result c.loop-rest.items.items _ c.in-len2-up.len_at_least
    c.item_from.ensures c.in_default-item_from.is c.loop-rest.invariant

pub loop-rest-preserved : goal.loop-rest-preserved
loop-rest-preserved c =
    item_goes_on c.loop-rest.rest.now _ _ _ c.item_from.result c.in-Some.item c.loop-rest.items.items _ _
    c.in-len2-up.len_at_least refl c.item_from.ensures c.in-Some.is c.in_ok-push.ensures.items
    c.loop-rest.invariant

pub returns-then-not-is_empty : goal.returns-then-not-is_empty
returns-then-not-is_empty c =
    one_left c.loop-rest.rest.now c.loop-rest.items.items _ c.in_default.len_below
    (sym c.is_empty.ensures ∙ c.if-not-is_empty.true) c.loop-rest.invariant

pub returns : goal.returns
returns c =
    ap Some c.in_ok-new.ensures ∙ none_left c.loop-rest.rest.now c.loop-rest.items.items _
    (eqb-true _ _ (sym c.is_empty.ensures ∙ c.if-not-is_empty.false)) c.loop-rest.invariant
