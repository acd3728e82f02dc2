use Rattle.std.proofs.Common.{length, ap}
use Rattle.hp_buddy.specs.Cpus.{CpusValue, list_of}
use Rattle.hp_buddy.proofs.cpus.Cpus.len.Goals as goal

pub returns : goal.returns
returns c =
    rw (c.len.ensures, c.cpu_list.ensures)
    (ap (λ (v : CpusValue). length (list_of v c.args.cpu c.args.pool)) c.self.view_is)
