use Rattle.hp_check.specs.Adds.{IsShape}
use Rattle.hp_check.proofs.Added.{none_added}
use Rattle.hp_check.proofs.Forms.{each_seen}
use Rattle.hp_check.proofs.shape.push_boot.Goals as goal

pub returns-in_default : goal.returns-in_default
returns-in_default c = rw c.in_default.is (none_added IsShape _)

pub returns-in_default-as_array : goal.returns-in_default-as_array
returns-in_default-as_array c = rw (c.in-Some.is, ← c.in_default-as_array.ensures) c.push.ensures

pub returns : goal.returns
returns c =
    rw (c.in-Some.is, ← c.in-Some-as_array.ensures, ← each_seen, ← c.deref.ensures.value) c.push_boots.ensures
