use Rattle.std.proofs.Common.{sym}
use Rattle.hp_scenario.specs.Form.{boot_at}
use Rattle.hp_scenario.proofs.Each.{goes_on, stops, is_done}
use Rattle.hp_scenario.proofs.form.boots_from.Goals as goal

pub returns-in_default : goal.returns-in_default
returns-in_default c =
    stops boot_at c.deref-value-items.result.now c.args.values.now.items c.loop-value.value-index
    c.value-item.result c.loop-value.boots.items _ c.deref-value-items.ensures.value c.loop-value-test.true
    c.value-item.is (sym c.in_default.ensures) c.loop-value.invariant

pub loop-value-preserved : goal.loop-value-preserved
loop-value-preserved c =
    goes_on boot_at c.deref-value-items.result.now c.args.values.now.items c.loop-value.value-index
    c.value-item.result c.loop-value.boots.items c.push.new.self.items c.in-Some.boot _
    c.deref-value-items.ensures.value c.loop-value-test.true c.value-item.is (sym c.in-Some.ensures)
    c.in_ok-push.ensures.items c.loop-value.invariant

pub returns : goal.returns
returns c =
    is_done boot_at c.deref-value-items.result.now c.args.values.now.items c.loop-value.value-index
    c.loop-value.boots.items _ c.deref-value-items.ensures.value c.loop-value-test.false
    c.loop-value.invariant
