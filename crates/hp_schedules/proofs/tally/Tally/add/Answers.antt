-- One share more.
use Rattle.std.proofs.Common.{arith, get_or, length, refl, ◌∙◌}
use Rattle.std.proofs.lemmas.Option.{slice_get-get_or}
use Rattle.hp_schedules.proofs.Shares.{adds_more, adds_none, next_end, next_room, nothing}
use Rattle.hp_schedules.proofs.Trails.{keeps_none, keeps_twice}
use Rattle.hp_schedules.proofs.tally.Tally.add.Goals as goal

pub loop-share-init : goal.loop-share-init
loop-share-init c = record {
  added = adds_none c.args.self.now.ends c.args.shares.now;
  limit_is = refl;
  told = keeps_none c.args.self.now;
}

pub add_at-requires-clause-place : goal.add_at-requires-clause-place
add_at-requires-clause-place c =
    next_end _ _ _ _ _
    (slice_get-get_or c.args.shares.now c.loop-share.share-index nothing c.loop-share-test.true)
    c.requires.ends c.loop-share.invariant.added

pub add_at-requires-clause-room : goal.add_at-requires-clause-room
add_at-requires-clause-room c =
    let at = c.loop-share.share-index in
    next_room c.args.self.now c.loop-share.self c.args.shares.now at (get_or c.args.shares.now at nothing)
    (slice_get-get_or c.args.shares.now at nothing c.loop-share-test.true) c.loop-share.invariant.limit_is
    c.requires.room c.loop-share.invariant.added

pub loop-share-preserved : goal.loop-share-preserved
loop-share-preserved c =
    record {
      added =
          adds_more _ _ _ _ _ _
          (slice_get-get_or c.args.shares.now c.loop-share.share-index nothing c.loop-share-test.true)
          c.loop-share.invariant.added c.in_ok-add_at.ensures.added;
      limit_is = c.in_ok-add_at.ensures.limit ∙ c.loop-share.invariant.limit_is;
      told =
          keeps_twice c.args.self.now c.loop-share.self c.add_at.new.self (length c.args.self.now.trail)
          (length c.loop-share.self.trail) (omega (arith, c.loop-share.invariant.added.adds.as_many))
          c.loop-share.invariant.told.longer c.loop-share.invariant.told c.in_ok-add_at.ensures.trail;
    }
