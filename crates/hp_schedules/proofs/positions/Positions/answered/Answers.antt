-- As the processor's cursor says.
use Rattle.std.proofs.Common.{ap, arith, length, refl, sym, ◌∙◌}
use Rattle.std.proofs.lemmas.Option.{slice_get_read}
use Rattle.hp_units.specs.declared.replies.Record.{Record}
use Rattle.hp_schedules.proofs.AnswersAt.{answered_at}
use Rattle.hp_schedules.proofs.positions.Positions.answered.Goals as goal

pub returns : goal.returns
returns c =
    let cpu_is = ap (λ (r : Record). r.cpu) c.latest.view_is in
    λ g news scripts called all. answered_at g news c.args.latest.now c.lines.result.now
    c.args.self.now.cursors.items c.index.result.now c.answered.result
    (rw (scripts, c.lines.ensures) (rw cpu_is at (slice_get_read c.args.scripts.now
    (length c.args.scripts.now) _ c.index-scripts-place.result refl
    (omega (arith, cpu_is, c.requires.scripts)) c.index-scripts-place.is)))
    (rw cpu_is at (slice_get_read c.args.self.now.cursors.items (length c.args.self.now.cursors.items)
    _ c.index.result.now refl (omega (arith, cpu_is, c.requires.cursors)) c.index.ensures))
    called all
    (λ cpus receipts x reply asked is settled. c.answered.ensures cpus receipts x
    (reply ∙ sym (ap (λ (r : Record). r.reply) c.latest.view_is)) asked is settled)
