use Rattle.std.proofs.Common.{◌++◌}
use Rattle.hp_shared.proofs.SealRuns.{appended}
use Rattle.hp_shared.proofs.threads.gather.Goals as goal

pub returns-clause-volumes : goal.returns-clause-volumes
returns-clause-volumes g c =
    let done = c.args.done.volumes.items in
    let handed = c.args.worked.volumes.items in
    appended c.append.result c.append.new.self.items (done ++ handed) done
    (c.append.ensures.succeeds c.requires.volumes) c.append.ensures.items

pub returns-clause-seats : goal.returns-clause-seats
returns-clause-seats g c = c.push_reserved.ensures.items
