use Rattle.std.proofs.Common.{◌∙◌}
use Rattle.hp_live.proofs.Shown.{change_begins, change_some}
use Rattle.hp_live.proofs.states.after_bracket.Goals as goal

pub returns-in-Some : goal.returns-in-Some
returns-in-Some c change object =
    let is = c.in-Some.ensures.cases.0 in
    is ∙ change_begins change c.in-Some.field-0-0.now c.in-Some.rest.now (rw is at object)

pub returns-in-None : goal.returns-in-None
returns-in-None c change object =
    absurd (change_some change c.args.object.now object c.in-None.ensures.cases)
