use Rattle.std.proofs.Common.{◌+◌, arith, length, ap}
use Rattle.std.proofs.lemmas.List.FromFn.{length-map-range_with_len}
use Rattle.hp_buddy.specs.Rings.{alone_at}
use Rattle.hp_buddy.proofs.Places.{new_alone}
use Rattle.hp_buddy.proofs.rings.Rings.new.Goals as goal

pub invariant_of-result-clause-sized : goal.invariant_of-result-clause-sized
invariant_of-result-clause-sized c =
    omega (
      arith,
      ap length c.in_ok-nodes.ensures,
      length-map-range_with_len alone_at 0 (c.args.frames + c.args.lists),
      c.in_ok-lens.ensures.len,
    )

pub returns-clause-alone : goal.returns-clause-alone
returns-clause-alone c = rw c.in_ok-nodes.ensures (new_alone (c.args.frames + c.args.lists))
