use Rattle.std.proofs.Common.{◌∙◌, string_bytes}
use Rattle.std.proofs.lemmas.Result.{IfOk-weaker}
use Rattle.hp_live.proofs.Kept.{none_kept, plan_kept}
use Rattle.hp_live.proofs.runs.run_to_end.Goals as goal

pub returns-in-Ok-clause-ok : goal.returns-in-Ok-clause-ok
returns-in-Ok-clause-ok c =
    IfOk-weaker c.drive.result _ _
    (λ end ran. plan_kept c.args.machine.now c.drive.new.machine c.args.cpu c.args.turns c.args.plan.now
    c.in-Ok.plan end (string_bytes c.out.inside.text) c.out.inside.calls.items c.drive.new.calls.items
    c.out.inside.did c.in-Ok.ensures (c.out.view_is ∙ c.requires) ran) c.drive.ensures.ok

pub returns-in-Err-clause-ok : goal.returns-in-Err-clause-ok
returns-in-Err-clause-ok c =
    none_kept c.args.machine.now c.args.cpu c.args.turns c.args.plan.now c.left.result c.args.out.now
    c.left.ensures c.requires
