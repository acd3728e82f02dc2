use Rattle.std.proofs.Common.{sym}
use Rattle.hp_scenario.specs.declared.fault.ScenarioFault.TheVariants.{BadShape}
use Rattle.hp_scenario.proofs.Each.{goes_on, stops, is_done}
use Rattle.hp_parts.specs.Reading.{processor_of}
use Rattle.hp_parts.proofs.Values.{none_of, some_of}
use Rattle.hp_parts.proofs.reading.processors_of.Goals as goal

pub returns-in_default : goal.returns-in_default
returns-in_default c =
    none_of BadShape _
    (stops processor_of _ _ _ _ _ _ c.deref-value-items.ensures.value c.loop-value-test.true
    c.value-item.is (sym c.in_default.ensures) c.loop-value.invariant)

pub loop-value-preserved : goal.loop-value-preserved
loop-value-preserved c =
    goes_on processor_of _ _ _ _ _ _ _ _ c.deref-value-items.ensures.value c.loop-value-test.true
    c.value-item.is (sym c.in-Some.ensures) c.in_ok-push.ensures.items c.loop-value.invariant

pub returns : goal.returns
returns c =
    some_of BadShape _ _
    (is_done processor_of _ _ _ _ _ c.deref-value-items.ensures.value c.loop-value-test.false
    c.loop-value.invariant)
