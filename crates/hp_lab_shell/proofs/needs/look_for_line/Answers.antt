use Rattle.std.proofs.lemmas.Result.{IfErr-weaker}
use Rattle.hp_lab_shell.proofs.Named.{past_is_fault}
use Rattle.hp_lab_shell.proofs.needs.look_for_line.Goals as goal

pub returns-clause-err : goal.returns-clause-err
returns-clause-err c =
    IfErr-weaker c.look_among.result _ _
    (λ fault h. past_is_fault c.args.word c.args.input.now c.last_named-asked.result c.in_ok-count.count fault
    c.last_named-asked.ensures c.in_ok-count.ensures h) c.look_among.ensures.err
