-- A refill notes at most four deltas.
use Rattle.std.proofs.Common.{◌≡◌, ap, arith}
use Rattle.hp_units.specs.LayoutParts.{LayoutParts}
use Rattle.hp_units.specs.declared.rows.Pool.TheVariants.{Nm}
use Rattle.hp_tape.specs.Bounds.{batch_bound}
use Rattle.hp_buddy.specs.Cpus.{frames_of}
use Rattle.hp_buddy.proofs.Undoes.{take-few}
use Rattle.layer_tests.proofs.processors.take.Goals as goal

pub take_one-requires-clause-room : goal.take_one-requires-clause-room
take_one-requires-clause-room c =
    let v = c.args.cpus.now in
    let most : batch_bound v.layout ≡ 4 =
    ap (λ (l : LayoutParts). batch_bound l) c.requires.layout in
    omega (arith, take-few v.layout (frames_of c.args.buddy.now.areas v) 0 Nm, most, c.requires.room)
