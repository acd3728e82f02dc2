use Rattle.std.proofs.Common.{◌∙◌, ap, sym, arith, length}
use Rattle.std.proofs.lemmas.List.FromFn.{length-map-range_with_len, map-range_with_len_more}
use Rattle.hp_buddy.specs.Rings.{alone_at}
use Rattle.hp_buddy.proofs.rings.Node.all.Goals as goal

pub push_reserved-requires : goal.push_reserved-requires
push_reserved-requires c =
    omega (
      arith,
      ap length c.loop-place.invariant.0,
      length-map-range_with_len alone_at 0 c.loop-place.place,
      c.loop-place.invariant.1,
      c.loop-place-test.true,
    )

pub loop-place-preserved : goal.loop-place-preserved
loop-place-preserved c = (
  rw (c.push_reserved.ensures.items, c.loop-place.invariant.0, c.ring.ensures)
      (sym (map-range_with_len_more alone_at 0 c.loop-place.place c.loop-place.place (omega arith))),
  c.push_reserved.ensures.capacity ∙ c.loop-place.invariant.1,
)
