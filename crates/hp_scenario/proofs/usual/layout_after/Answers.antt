use Rattle.std.proofs.Common.{refl}
use Rattle.hp_units.specs.PartsSeen.{parts_seen}
use Rattle.hp_scenario.proofs.UsualForm.{layout_found}
use Rattle.hp_scenario.proofs.usual.layout_after.Goals as goal

pub returns : goal.returns
returns c =
    layout_found c.layout_of.result (parts_seen c.in-Some.numbers) c.deref.result.now
    c.takes_boot.new.boot.items c.args.reader.now c.takes_object.new.reader
    c.numbers_after.new.reader c.takes_boot.new.reader
    (c.if-not-takes_object.ensures refl) c.in-Some.ensures (c.in_ok-takes_boot.ensures c.if-not-branch.false)
    c.deref.ensures.value c.layout_of.ensures
