-- The first group that is the outcome's.
use Rattle.std.proofs.Common.{length, refl}
use Rattle.std.proofs.lemmas.Option.{slice_get_read}
use Rattle.std.proofs.lemmas.Bool.{iff_false}
use Rattle.hp_search.proofs.GroupsFound.{none_all, none_more}
use Rattle.hp_search.proofs.groups.first_place_of.Goals as goal

pub returns-then-branch-clause-some : goal.returns-then-branch-clause-some
returns-then-branch-clause-some c = (
  c.index-groups-place.result,
  slice_get_read c.args.groups.now (length c.args.groups.now) c.loop-place.place c.index-groups-place.result
      refl c.loop-place-test.true c.index-groups-place.is,
  c.in_ok-agree.ensures.0 c.if-branch.true,
)

pub loop-place-preserved : goal.loop-place-preserved
loop-place-preserved c = record {
  none =
      none_more c.args.by.now c.args.groups.now c.args.outcome.now c.loop-place.place
      c.index-groups-place.result c.loop-place.invariant.none
      (slice_get_read c.args.groups.now (length c.args.groups.now) c.loop-place.place
      c.index-groups-place.result refl c.loop-place-test.true c.index-groups-place.is)
      (λ agrees. iff_false c.in_ok-agree.ensures c.if-branch.false agrees);
}

pub returns-clause-none : goal.returns-clause-none
returns-clause-none c =
    none_all c.args.by.now c.args.groups.now c.args.outcome.now c.loop-place.place c.loop-place-test.false
    c.loop-place.invariant.none
