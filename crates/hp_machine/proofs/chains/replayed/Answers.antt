-- The volume's records are sealed, or their fault is one of the volume.
use Rattle.std.proofs.Common.{◌≡◌, OnOk, subst}
use Rattle.std.proofs.lemmas.Result.{IfErr-weaker, on_ok_weaker}
use Rattle.hp_history.specs.Course.{CourseValue}
use Rattle.hp_machine.proofs.ChainEnds.{memory_fault, records_fault, sealed_so}
use Rattle.hp_machine.proofs.chains.replayed.Goals as goal

pub returns-in-Ok-clause-legal : goal.returns-in-Ok-clause-legal
returns-in-Ok-clause-legal c =
    on_ok_weaker c.seal_off.result (λ next. rw c.as_slice-records.ensures at c.in-Ok.ensures.course.legal)
    c.seal_off.ensures.next

pub returns-in-Ok-clause-next : goal.returns-in-Ok-clause-next
returns-in-Ok-clause-next c =
    subst (λ (d : CourseValue). OnOk c.seal_off.result (c.seal_off.new.end ≡ d))
    (sealed_so c.args.end.now c.followed.new.journal c.args.volume.now c.as_slice-records.result.now
    c.as_slice-records.ensures c.in-Ok.ensures.course) c.seal_off.ensures.next

pub returns-in-Ok-clause-err : goal.returns-in-Ok-clause-err
returns-in-Ok-clause-err c =
    IfErr-weaker c.seal_off.result _ _
    (λ fault is. memory_fault c.args.end.now c.args.at c.args.volume.now fault is) c.seal_off.ensures.err

pub returns-in-Err-clause-err : goal.returns-in-Err-clause-err
returns-in-Err-clause-err c =
    rw c.chain_fault.ensures (records_fault c.args.end.now c.args.at c.args.volume.now
    c.as_slice-records.result.now c.in-Err.fault c.requires.follows c.as_slice-records.ensures
    c.in-Err.ensures.fault)
