-- The first end with the outcome.
use Rattle.std.proofs.Common.{length, refl}
use Rattle.std.proofs.lemmas.Option.{slice_get_read}
use Rattle.std.proofs.lemmas.Bool.{iff_false}
use Rattle.hp_schedules.proofs.Places.{none_all, none_more}
use Rattle.hp_parts.proofs.merged_ends.first_place_of.Goals as goal

pub returns-then-same-clause-some : goal.returns-then-same-clause-some
returns-then-same-clause-some c = (
  c.index-ends-place.result,
  slice_get_read c.args.ends.now (length c.args.ends.now) c.loop-place.place c.index-ends-place.result refl
      c.loop-place-test.true c.index-ends-place.is,
  c.same.ensures.0 c.if-same.true,
)

pub loop-place-preserved : goal.loop-place-preserved
loop-place-preserved c = record {
  none =
      none_more c.args.ends.now c.args.outcome.now c.loop-place.place c.index-ends-place.result
      c.loop-place.invariant.none
      (slice_get_read c.args.ends.now (length c.args.ends.now) c.loop-place.place c.index-ends-place.result
      refl c.loop-place-test.true c.index-ends-place.is)
      (λ same. iff_false c.same.ensures c.if-same.false same);
}

pub returns-clause-none : goal.returns-clause-none
returns-clause-none c =
    none_all c.args.ends.now c.args.outcome.now c.loop-place.place c.loop-place-test.false
    c.loop-place.invariant.none
