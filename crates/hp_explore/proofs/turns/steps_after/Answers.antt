-- An undo of steps that there are not leaves the state as it is.
use Rattle.std.proofs.Common.{refl}
use Rattle.std.proofs.lemmas.Result.{IfErr-weaker}
use Rattle.hp_units.specs.declared.replies.Refusal.TheVariants.{Gone}
use Rattle.hp_units.specs.declared.replies.Reply.TheVariants.{Refused}
use Rattle.hp_explore.specs.Settings.{setting}
use Rattle.hp_explore.proofs.Continued.{cause_along}
use Rattle.hp_explore.proofs.Stepped.{gone_leads}
use Rattle.hp_explore.proofs.turns.steps_after.Goals as goal

pub returns-clause-ok : goal.returns-clause-ok
returns-clause-ok c =
    gone_leads c.args.start.now c.args.scripts.now c.args.here.now c.in_ok-steps.steps c.args.serial
    c.args.cpu c.args.event.now c.in_ok-copy.field-0 (Refused Gone) c.requires.at c.requires.asked
    c.requires.serial (c.is_gone.ensures c.if-not-is_gone.false)
    c.in_ok-copy.ensures.ok refl c.in_ok-steps.ensures

pub returns-then-not-is_gone-clause-err : goal.returns-then-not-is_gone-clause-err
returns-then-not-is_gone-clause-err c =
    let g = setting c.args.start.now c.args.scripts.now in
    IfErr-weaker c.replayed.result _ _
    (λ fault along. cause_along g c.args.here.now.records c.args.cpu c.args.event.now fault
    c.requires.at.played c.requires.asked
    (λ full. rw c.records.ensures at (along full)))
    c.replayed.ensures.along
