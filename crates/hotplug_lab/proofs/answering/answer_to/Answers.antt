use Rattle.std.proofs.Common.{sym, subst}
use Rattle.std.proofs.lemmas.Result.{IfErr-weaker}
use Rattle.hotplug_lab.specs.Words.{IsUnanswered}
use Rattle.hotplug_lab.proofs.Answered.{no_memory, not_drawn, not_logged, not_told, not_traced}
use Rattle.hotplug_lab.proofs.answering.answer_to.Goals as goal

pub returns-in-Check-clause-err : goal.returns-in-Check-clause-err
returns-in-Check-clause-err g c =
    IfErr-weaker c.checked.result _ _
    (λ fault h. subst (IsUnanswered c.args.word c.args.input.now) (sym h)
    (no_memory c.args.word c.args.input.now)) c.checked.ensures.err

pub returns-in-Trace-clause-err : goal.returns-in-Trace-clause-err
returns-in-Trace-clause-err g c =
    IfErr-weaker c.traced.result _ _
    (λ fault h. not_traced c.args.word c.in-Trace.view c.args.input.now fault c.in-Trace.is h)
    c.traced.ensures.err

pub returns-in-Picture-clause-err : goal.returns-in-Picture-clause-err
returns-in-Picture-clause-err g c =
    IfErr-weaker c.drawn.result _ _
    (λ fault h. not_drawn c.args.word c.in-Picture.drawing c.args.input.now fault c.in-Picture.is h)
    c.drawn.ensures.err

pub returns-in-Log-clause-err : goal.returns-in-Log-clause-err
returns-in-Log-clause-err g c =
    IfErr-weaker c.logged.result _ _
    (λ fault h. not_logged c.args.word c.args.input.now fault c.in-Log.is h) c.logged.ensures.err

pub returns-in-Told-clause-err : goal.returns-in-Told-clause-err
returns-in-Told-clause-err g c =
    IfErr-weaker c.told.result _ _
    (λ fault h. not_told c.args.word c.in-Told.form c.args.input.now fault c.in-Told.is h) c.told.ensures.err
