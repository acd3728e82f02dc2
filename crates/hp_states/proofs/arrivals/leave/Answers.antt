-- What was counted since the walk reached the place is what goes on from there.
use Rattle.std.proofs.Common.{arith}
use Rattle.std.proofs.lemmas.Result.{on_ok_weaker}
use Rattle.hp_states.proofs.Entered.{go_on_gathered}
use Rattle.hp_states.proofs.Leaving.{left_kept}
use Rattle.hp_states.proofs.arrivals.leave.Goals as goal

pub gather-requires : goal.gather-requires
gather-requires c = c.requires.leaving.1.frame_is.within

pub keep-requires-clause-keeping : goal.keep-requires-clause-keeping
keep-requires-clause-keeping c =
    let leaving = c.requires.leaving in (
      leaving.0,
      c.args.records.now,
      c.gather.new.self.ends,
      left_kept c.gather.new.self (omega (arith, c.if-records-calls.false, c.calls.ensures))
          c.gather.ensures.trail c.gather.ensures.ends c.since.ensures.shares leaving.1,
    )

pub returns-then-records-calls-clause-memo : goal.returns-then-records-calls-clause-memo
returns-then-records-calls-clause-memo c =
    λ g leaving. rw c.gather.ensures.ends leaving.memo_is

pub returns-then-records-calls-clause-tally : goal.returns-then-records-calls-clause-tally
returns-then-records-calls-clause-tally c =
    go_on_gathered c.gather.ensures.ends c.gather.ensures.trail

pub returns-clause-memo : goal.returns-clause-memo
returns-clause-memo c =
    on_ok_weaker c.keep.result
    (λ more g leaving. more g c.args.records.now c.gather.new.self.ends
    (left_kept c.gather.new.self (omega (arith, c.if-records-calls.false, c.calls.ensures))
    c.gather.ensures.trail c.gather.ensures.ends c.since.ensures.shares leaving))
    c.keep.ensures.memo

pub returns-clause-tally : goal.returns-clause-tally
returns-clause-tally c = go_on_gathered c.gather.ensures.ends c.gather.ensures.trail
