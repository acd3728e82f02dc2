use Rattle.std.proofs.Common.{ap, ◌∙◌, ◌*◌}
use Rattle.hp_units.specs.Arithmetic.{pageblock_size}
use Rattle.hp_buddy.specs.Buddy.{BuddyValue}
use Rattle.hp_buddy.proofs.Gives.{Gives}
use Rattle.hp_buddy.proofs.Blocks.{block_added}
use Rattle.hp_buddy.proofs.buddy.Buddy.add_pageblock.Goals as goal
use Rattle.hp_buddy.proofs.buddy.Buddy.add_pageblock.Goals.{After-push_back}

gives : (c : After-push_back)
    → Gives c.args.self.now.layout c.args.self.now.areas c.args.self.now.layout.order
    (c.args.pageblock * pageblock_size c.args.self.now.layout) c.push_back.new.self.areas
gives c =
    block_added c.args.self.now.layout c.args.self.now.areas c.push_back.new.self.areas c.usable-class.result
    c.order.result c.args.self.now.layout.order c.first_frame-first.result
    (c.args.pageblock * pageblock_size c.args.self.now.layout)
    (c.order.ensures.is ∙ ap (λ (v : BuddyValue). v.layout.order) c.self.view_is)
    c.first_frame-first.ensures c.push_back.ensures.areas c.requires.block c.requires.apart

pub returns-clause-apart : goal.returns-clause-apart
returns-clause-apart c =
    rw c.push_back.ensures.layout (gives (goal.at.returns-clause-apart c).After-push_back).apart

pub returns-clause-places : goal.returns-clause-places
returns-clause-places c = (gives (goal.at.returns-clause-places c).After-push_back).places
