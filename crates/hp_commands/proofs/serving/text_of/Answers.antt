use Rattle.hp_commands.proofs.serving.text_of.Goals as goal

pub returns-in-Audit-clause-ok : goal.returns-in-Audit-clause-ok
returns-in-Audit-clause-ok g c =
    rw c.in-Audit.is (rw c.deref-in-Audit.ensures.value at c.audit.ensures.ok)

pub returns-in-Audit-clause-err : goal.returns-in-Audit-clause-err
returns-in-Audit-clause-err g c =
    rw c.in-Audit.is (rw c.deref-in-Audit.ensures.value at c.audit.ensures.err)
