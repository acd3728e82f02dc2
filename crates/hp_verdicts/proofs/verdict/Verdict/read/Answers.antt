use Rattle.std.proofs.Common.{sym, subst}
use Rattle.std.proofs.lemmas.Result.{on_ok_weaker}
use Rattle.hp_verdicts.specs.Reports.{IsVerdictOn, Judged}
use Rattle.hp_verdicts.proofs.Verdicts.{verdict_fault, verdict_lawful}
use Rattle.hp_verdicts.proofs.verdict.Verdict.read.Goals as goal

pub returns-in-Some-clause-verdict : goal.returns-in-Some-clause-verdict
returns-in-Some-clause-verdict c =
    on_ok_weaker c.add.result
    (λ add log is.
    verdict_fault c.self.inside.judge c.observe.new.self c.self.inside.faults c.add.new.self c.args.event.now
    c.in_ok-fault.fault c.in-Some.fault c.self.inside.number
    (c.observe.ensures.size, c.in_ok-fault.ensures.follows, c.in_ok-fault.ensures.verdict) c.in-Some.is
    c.self.invariant.0 add log (rw c.self.view_is is)) c.add.ensures.report

pub returns-in-None-clause-verdict : goal.returns-in-None-clause-verdict
returns-in-None-clause-verdict c =
    λ log is.
    verdict_lawful c.self.inside.judge c.observe.new.self c.self.inside.faults c.args.event.now
    c.in_ok-fault.fault
    (c.observe.ensures.size, c.in_ok-fault.ensures.follows, c.in_ok-fault.ensures.verdict) c.in-None.is
    log (subst (λ (v : Judged). IsVerdictOn log v) (sym c.self.view_is) is)
