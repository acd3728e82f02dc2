-- The cursor has it.
use Rattle.std.proofs.Common.{refl}
use Rattle.std.proofs.lemmas.Option.{slice_get_read}
use Rattle.hp_schedules.proofs.Placed.{operation_at}
use Rattle.hp_schedules.proofs.positions.Positions.operation.Goals as goal

pub returns : goal.returns
returns c =
    λ g news all. operation_at g news c.args.self.now.cursors.items c.index-cursor.result.now c.args.cpu
    (slice_get_read _ _ _ _ refl c.requires c.index-cursor.ensures) all
