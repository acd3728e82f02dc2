-- Each cursor is where its script begins.
use Rattle.std.proofs.lemmas.List.{length-map}
use Rattle.hp_schedules.proofs.Placed.{all_begun}
use Rattle.hp_schedules.proofs.positions.Positions.start.Goals as goal

pub returns-clause-many : goal.returns-clause-many
returns-clause-many c = rw (c.in_ok-cursors.ensures, length-map)

pub returns-clause-begun : goal.returns-clause-begun
returns-clause-begun c =
    λ g scripts cpus. all_begun g c.args.cpus c.args.scripts.now c.in_ok-cursors.cursors.items scripts cpus
    c.in_ok-cursors.ensures
