-- The list changes by the numbers of the place before the call.
use Rattle.std.proofs.lemmas.Result.{IfOk-weaker}
use Rattle.hp_states.proofs.Numbered.{changed_on}
use Rattle.hp_states.proofs.stops.openings_after.Goals as goal

pub returns-clause-ok : goal.returns-clause-ok
returns-clause-ok c =
    let r = c.args.call.now in
    let old = c.args.openings.now in
    let new = c.after.new.self in
    let from = c.args.was.state in
    IfOk-weaker c.after.result _ _
    (λ number changed at g codes news numbering numbers leaves state was.
    changed_on at numbering g codes old new news r from c.args.was.openings number leaves
    (rw numbers
    (rw (c.in-Some.ensures.some, c.in-Some-numbered.ensures, c.change_of.ensures) at changed)) state was)
    c.after.ensures.ok
