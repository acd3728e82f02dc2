-- That of the line at the place, or any past the last line.
use Rattle.std.proofs.Common.{◌∙◌, length, refl}
use Rattle.std.proofs.lemmas.Option.{slice_get_past, slice_get_read}
use Rattle.hp_schedules.proofs.Asked.{driver_is}
use Rattle.hp_schedules.proofs.cursors.first_driver.Goals as goal

pub returns-in-Some : goal.returns-in-Some
returns-in-Some c =
    rw (slice_get_read c.args.lines.now (length c.args.lines.now) c.args.line c.in-Some.line.now refl
    c.in-Some.ensures.lookup.3.0 c.in-Some.ensures.lookup.1)
    (driver_is c.args.cpus c.turns_of.result c.new.result c.new.ensures ∙ c.turns_of.ensures c.args.cpus)

pub returns-in-None : goal.returns-in-None
returns-in-None c =
    rw (slice_get_past c.args.lines.now c.args.line c.in-None.ensures.lookup.3)
    (driver_is c.args.cpus 0 c.new-in-None.result c.new-in-None.ensures)
