use Rattle.std.proofs.Common.{ap, ◌∙◌}
use Rattle.hp_buddy.specs.Buddy.{next_from}
use Rattle.hp_buddy.proofs.Standing.{next-is}
use Rattle.hp_buddy.specs.Cpus.{CpusValue}
use Rattle.hp_buddy.proofs.cpus.Cpus.next.Goals as goal

pub returns : goal.returns
returns c =
    next-is c.self.inside.links c.args.frame c.next.result c.next.ensures.on c.next.ensures.free
    ∙ ap (λ (v : CpusValue). next_from c.args.frame v.cached) c.self.view_is
