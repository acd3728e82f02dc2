use Rattle.std.proofs.lemmas.Result.{IfErr-weaker, on_ok_weaker}
use Rattle.hp_search.specs.Prepared.{names_of, setting_of}
use Rattle.hp_parts.proofs.taking.take_line.Goals as goal

pub returns-in-Head-clause-ok : goal.returns-in-Head-clause-ok
returns-in-Head-clause-ok c =
    on_ok_weaker c.take_head.result
    (λ h. h (names_of c.args.prepared.now) (setting_of c.args.prepared.now)) c.take_head.ensures.ok

pub returns-in-Head-clause-err : goal.returns-in-Head-clause-err
returns-in-Head-clause-err c =
    IfErr-weaker c.take_head.result _ _
    (λ fault h. h (names_of c.args.prepared.now) (setting_of c.args.prepared.now)) c.take_head.ensures.err
