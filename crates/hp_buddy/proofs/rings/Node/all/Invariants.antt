use Rattle.std.proofs.Common.{◌≡◌, map}
use Rattle.std.specs.Prelude.{vec_capacity}
use Rattle.std.specs.List.{range_with_len}
use Rattle.hp_buddy.specs.Rings.{alone_at}
use Rattle.hp_buddy.proofs.rings.Node.all.Given as goal

abbrev pub invariant-loop-place : goal.invariant-loop-place
invariant-loop-place l =
    (l.nodes.items ≡ map alone_at (range_with_len 0 l.place)) × (vec_capacity l.nodes ≡ l.count)
