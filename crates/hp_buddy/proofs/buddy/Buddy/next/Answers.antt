use Rattle.std.proofs.Common.{ap, ◌∙◌}
use Rattle.hp_buddy.specs.Buddy.{BuddyValue, next_of}
use Rattle.hp_buddy.proofs.Standing.{next-is}
use Rattle.hp_buddy.proofs.buddy.Buddy.next.Goals as goal

pub returns : goal.returns
returns c =
    next-is c.self.inside.links c.args.frame c.next.result c.next.ensures.on c.next.ensures.free
    ∙ ap (λ (v : BuddyValue). next_of v.areas c.args.frame) c.self.view_is
