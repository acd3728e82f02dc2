-- The journal goes on by each record that is not at fault; in the end it is that of all records.
use Rattle.std.proofs.lemmas.Option.{slice_get_read}
use Rattle.std.proofs.lemmas.Result.{err_from_is_err_and}
use Rattle.std.proofs.Common.{length, refl}
use Rattle.hp_machine.proofs.Replays.{fault_at, follow_one, refutes, starts, whole}
use Rattle.hp_machine.proofs.replaying.followed.Goals as goal

pub loop-place-init : goal.loop-place-init
loop-place-init c = record { course = starts c.args.journal.now c.args.records.now c.requires }

pub loop-place-preserved : goal.loop-place-preserved
loop-place-preserved c = record {
  course =
      follow_one c.args.journal.now.layout c.args.journal.now.base c.args.journal.now.before
      c.args.records.now
      c.loop-place.place c.index-records-place.result c.loop-place.journal c.follow.new.journal
      (slice_get_read c.args.records.now (length c.args.records.now) c.loop-place.place
      c.index-records-place.result refl c.loop-place-test.true
      c.index-records-place.is) c.loop-place.invariant.course c.in_ok-follow.ensures.ok;
}

pub returns-clause-course : goal.returns-clause-course
returns-clause-course c =
    whole c.args.journal.now.layout c.args.journal.now.base c.args.journal.now.before c.args.records.now
    c.loop-place.place c.loop-place.journal c.loop-place-test.false c.loop-place.invariant.course

pub returns-in_err-follow-clause-fault : goal.returns-in_err-follow-clause-fault
returns-in_err-follow-clause-fault c =
    let p = err_from_is_err_and c.from_residual.result c.from_residual.ensures.1 in
    rw (p.1, p.2) (fault_at c.args.journal.now.layout c.args.journal.now.base c.args.journal.now.before
    c.args.records.now c.loop-place.place c.index-records-place.result c.loop-place.journal _
    (slice_get_read c.args.records.now (length c.args.records.now) c.loop-place.place
    c.index-records-place.result refl c.loop-place-test.true
    c.index-records-place.is) c.loop-place.invariant.course c.in_err-follow.ensures.err)

pub returns-in_err-follow-clause-only : goal.returns-in_err-follow-clause-only
returns-in_err-follow-clause-only c =
    let p = err_from_is_err_and c.from_residual.result c.from_residual.ensures.1 in
    rw (p.1, p.2)
    (refutes c.args.journal.now.layout c.args.journal.now.base c.args.journal.now.before c.args.records.now _
    (fault_at c.args.journal.now.layout c.args.journal.now.base c.args.journal.now.before c.args.records.now
    c.loop-place.place c.index-records-place.result c.loop-place.journal _
    (slice_get_read c.args.records.now (length c.args.records.now) c.loop-place.place
    c.index-records-place.result refl c.loop-place-test.true
    c.index-records-place.is) c.loop-place.invariant.course c.in_err-follow.ensures.err))
