-- What the processor's script asks for from its cursor.
use Rattle.std.proofs.Common.{length, refl, arith}
use Rattle.std.proofs.lemmas.Option.{slice_get_read}
use Rattle.std.proofs.lemmas.Result.{IfOk-weaker}
use Rattle.hp_schedules.proofs.Plays.{none_past}
use Rattle.hp_schedules.proofs.Placed.{requested_at}
use Rattle.hp_schedules.proofs.positions.Positions.request.Goals as goal

pub returns-then-place-scripts : goal.returns-then-place-scripts
returns-then-place-scripts c =
    λ g scripts cpus all. none_past g c.args.news.now c.args.cpu (rw scripts (omega arith))

pub returns : goal.returns
returns c =
    IfOk-weaker c.request.result _ _
    (λ q asks g scripts cpus all. requested_at g c.args.news.now c.args.cpus c.args.cpu c.lines.result.now
    c.args.self.now.cursors.items c.index.result.now q cpus
    (rw (scripts, c.lines.ensures) (slice_get_read _ (length c.args.scripts.now) c.args.cpu _ refl
    (omega (arith, c.if-place-scripts.false)) c.index-scripts-place.is))
    (slice_get_read _ (length c.args.self.now.cursors.items) c.args.cpu _ refl
    (omega (arith, c.requires, c.if-place-scripts.false)) c.index.ensures)
    all asks)
    c.request.ensures
