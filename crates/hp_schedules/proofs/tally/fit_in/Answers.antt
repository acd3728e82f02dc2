-- All of them are taken from the room, or one is more than what is left.
use Rattle.std.proofs.Common.{refl}
use Rattle.std.proofs.lemmas.Bool.{false≢true}
use Rattle.std.proofs.lemmas.Option.{slice_get-get_or}
use Rattle.hp_schedules.proofs.Shares.{all_left, left_more, none_left, nothing}
use Rattle.hp_schedules.proofs.tally.fit_in.Goals as goal

pub loop-share-preserved : goal.loop-share-preserved
loop-share-preserved c =
    record {
      so_far =
          left_more c.args.shares.now _ _ _ c.loop-share.share-index _
          (slice_get-get_or c.args.shares.now c.loop-share.share-index nothing c.loop-share-test.true)
          c.loop-share.invariant.so_far c.in-Some.ensures.0 c.in-Some.ensures.1;
    }

pub returns-in-None : goal.returns-in-None
returns-in-None c = (
  λ told. absurd (false≢true told),
  λ fits. absurd (none_left c.args.shares.now _ _ c.loop-share.share-index _
      (slice_get-get_or c.args.shares.now c.loop-share.share-index nothing c.loop-share-test.true)
      c.loop-share.invariant.so_far c.in-None.ensures fits),
)

pub returns : goal.returns
returns c = (
  λ told. all_left c.args.shares.now c.args.room c.loop-share.left c.loop-share.share-index
      c.loop-share-test.false c.loop-share.invariant.so_far,
  λ fits. refl,
)
