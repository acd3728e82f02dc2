-- As the processor's cursor counts.
use Rattle.std.proofs.Common.{refl}
use Rattle.std.proofs.lemmas.Option.{slice_get_read}
use Rattle.hp_schedules.proofs.AnswersAt.{finished_at}
use Rattle.hp_schedules.proofs.positions.Positions.finished.Goals as goal

pub returns : goal.returns
returns c =
    λ g news scripts all. finished_at g c.args.cpu news c.lines.result.now _ _ c.finished.result
    (rw (scripts, c.lines.ensures) (slice_get_read _ _ _ _ refl c.requires.scripts c.index-scripts-place.is))
    (slice_get_read _ _ _ _ refl c.requires.cursors c.index.ensures) all c.finished.ensures
