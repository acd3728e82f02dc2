-- The journal of all records shows the state that they lead to.
use Rattle.std.proofs.lemmas.Result.{err_from_is_err_and}
use Rattle.hp_machine.proofs.Replays.{shown}
use Rattle.hp_machine.proofs.replaying.image_after.Goals as goal

pub returns-clause-legal : goal.returns-clause-legal
returns-clause-legal c = c.in_ok-followed.ensures.course.legal

pub returns-clause-value : goal.returns-clause-value
returns-clause-value c =
    rw (c.in_ok-image.ensures, c.memory-memory.ensures) (shown c.args.journal.now.layout
    c.args.journal.now.base c.args.journal.now.before c.args.records.now c.followed.new.journal
    c.in_ok-followed.ensures.course)

pub returns-clause-placed : goal.returns-clause-placed
returns-clause-placed c = rw c.in_ok-image.ensures c.is_placed.ensures.placed

pub returns-in_err-followed-clause-fault : goal.returns-in_err-followed-clause-fault
returns-in_err-followed-clause-fault c =
    let p = err_from_is_err_and c.from_residual.result c.from_residual.ensures.1 in
    rw (p.1, p.2) c.in_err-followed.ensures.fault

pub returns-in_err-followed-clause-only : goal.returns-in_err-followed-clause-only
returns-in_err-followed-clause-only c =
    let p = err_from_is_err_and c.from_residual.result c.from_residual.ensures.1 in
    rw (p.1, p.2) c.in_err-followed.ensures.only
