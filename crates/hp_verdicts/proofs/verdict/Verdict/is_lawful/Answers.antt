use Rattle.std.proofs.Common.{◌∙◌, ap}
use Rattle.hp_verdicts.proofs.Counting.{lawful_exactly}
use Rattle.hp_verdicts.specs.Reports.{Judged}
use Rattle.hp_verdicts.proofs.verdict.Verdict.is_lawful.Goals as goal

pub returns-clause-lawful : goal.returns-clause-lawful
returns-clause-lawful c =
    λ none log is.
    lawful_exactly c.args.self.now log c.count.result
    (c.count.ensures ∙ ap (λ (v : Judged). v.report.count) c.self.view_is) none is
