-- A text that is not found comes last.
use Rattle.hp_states.proofs.Joined.{keep_added, number_added}
use Rattle.hp_states.proofs.texts.Texts.number_of.Goals as goal

pub returns-in-None-clause-kept : goal.returns-in-None-clause-kept
returns-in-None-clause-kept c =
    keep_added c.append.result _ _ c.args.text.now c.append.ensures.ok c.append.ensures.err

pub returns-in-None-clause-ok : goal.returns-in-None-clause-ok
returns-in-None-clause-ok c =
    number_added c.append.result _ _ c.args.text.now c.append.ensures.ok c.append.ensures.number
