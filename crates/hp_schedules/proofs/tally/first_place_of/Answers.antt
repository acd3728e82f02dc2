-- The first end with the outcome.
use Rattle.std.proofs.Common.{refl}
use Rattle.std.proofs.lemmas.Option.{slice_get_read}
use Rattle.std.proofs.lemmas.Bool.{iff_false}
use Rattle.hp_schedules.specs.Outcomes.{outcome_with}
use Rattle.hp_schedules.proofs.Places.{none_all, none_more}
use Rattle.hp_schedules.proofs.tally.first_place_of.Goals as goal

pub returns-then-is_of-clause-some : goal.returns-then-is_of-clause-some
returns-then-is_of-clause-some c = (
  c.index-ends-place.result,
  slice_get_read _ _ _ _ refl c.loop-place-test.true c.index-ends-place.is,
  c.is_of.ensures.0 c.if-is_of.true,
)

pub loop-place-preserved : goal.loop-place-preserved
loop-place-preserved c = record {
  none =
      none_more c.args.ends.now (outcome_with c.args.processors c.args.records.now c.args.blocks.now)
      c.loop-place.place c.index-ends-place.result c.loop-place.invariant.none
      (slice_get_read _ _ _ _ refl c.loop-place-test.true c.index-ends-place.is)
      (λ same. iff_false c.is_of.ensures c.if-is_of.false same);
}

pub returns-clause-none : goal.returns-clause-none
returns-clause-none c =
    none_all c.args.ends.now (outcome_with c.args.processors c.args.records.now c.args.blocks.now)
    c.loop-place.place c.loop-place-test.false c.loop-place.invariant.none
