-- What the line here asks for.
use Rattle.std.proofs.Common.{length, refl, sym, ◌∙◌}
use Rattle.std.proofs.lemmas.Option.{slice_get_past, slice_get_read}
use Rattle.hp_schedules.proofs.cursors.Cursor.asked.Goals as goal

pub returns-in_default : goal.returns-in_default
returns-in_default c = rw (slice_get_past c.args.lines.now c.args.self.now.line c.in_default.ensures.lookup.3)

pub returns-in-Some-2 : goal.returns-in-Some-2
returns-in-Some-2 c = (
  rw (slice_get_read c.args.lines.now (length c.args.lines.now) c.args.self.now.line c.in-Some.line.now refl
      c.in-Some.ensures.lookup.3.0 c.in-Some.ensures.lookup.1) (sym c.in_ok-event.ensures ∙ c.in-Some-2.is),
  refl,
)

pub returns-in-None : goal.returns-in-None
returns-in-None c =
    rw (slice_get_read c.args.lines.now (length c.args.lines.now) c.args.self.now.line c.in-Some.line.now refl
    c.in-Some.ensures.lookup.3.0 c.in-Some.ensures.lookup.1) (sym c.in_ok-event.ensures ∙ c.in-None.is)
