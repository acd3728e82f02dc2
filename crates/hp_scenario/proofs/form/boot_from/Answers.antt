use Rattle.std.proofs.Common.{ap, sym}
use Rattle.hp_scenario.specs.Form.{boot_of}
use Rattle.hp_scenario.proofs.form.boot_from.Goals as goal

pub returns-in-offline : goal.returns-in-offline
unfolding boot_of
returns-in-offline c = sym (ap boot_of c.in-offline.is)

pub returns-in-normal : goal.returns-in-normal
unfolding boot_of
returns-in-normal c = sym (ap boot_of c.in-normal.is)

pub returns-in-movable : goal.returns-in-movable
unfolding boot_of
returns-in-movable c = sym (ap boot_of c.in-movable.is)

pub returns-in-absent : goal.returns-in-absent
unfolding boot_of
returns-in-absent c = sym (ap boot_of c.in-absent.is)
