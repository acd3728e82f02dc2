use Rattle.std.proofs.Common.{◌≡◌, true, rules}
use Rattle.hp_commands.proofs.Audited.{first_case, reached}
use Rattle.hp_commands.proofs.audits.check_volumes.Goals as goal

pub returns-clause-ok : goal.returns-clause-ok
returns-clause-ok c =
    let same : c.as_slice.result.now ≡ c.args.volumes.now.items = search rules in
    let alike : c.same.result ≡ true = search rules in
    reached c.args.volumes.now.items c.args.machine.now c.as_slice.result.now c.layout.result.now
    c.in_ok-base.base c.base.result.now same c.layout.ensures c.in_ok-base.ensures.chain
    c.in_ok-base.ensures.value c.base.ensures (first_case c.same.result _ _ c.same.ensures alike)
