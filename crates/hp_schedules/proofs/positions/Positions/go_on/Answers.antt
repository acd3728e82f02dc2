-- The processor's cursor goes on from where its script asked for the call.
use Rattle.std.proofs.Common.{refl}
use Rattle.std.proofs.lemmas.Option.{slice_get_read}
use Rattle.hp_schedules.proofs.Placed.{set_back, went_on}
use Rattle.hp_schedules.proofs.positions.Positions.go_on.Goals as goal

pub returns-clause-back : goal.returns-clause-back
returns-clause-back c =
    set_back c.args.self.now.cursors.items c.args.cpu c.after-later.result c.index-former.result.now
    (slice_get_read _ _ _ _ refl c.requires.cursors c.index-former.ensures)

pub returns-clause-later : goal.returns-clause-later
returns-clause-later c =
    λ g news scripts cpus all called. went_on g news c.args.latest.now c.args.cpus c.args.cpu
    c.lines.result.now _ _ c.after-later.result c.args.request.now cpus c.requires.whose
    (rw (scripts, c.lines.ensures) (slice_get_read _ _ _ _ refl c.requires.scripts c.index-scripts-place.is))
    (λ receipts event is asked. (
      c.after-later.ensures.moved receipts event is asked,
      c.after-later.ensures.settled receipts event is asked,
    ))
    refl all called
