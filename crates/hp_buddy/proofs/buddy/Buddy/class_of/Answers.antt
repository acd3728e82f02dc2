use Rattle.std.proofs.Common.{ap, arith, ◌≡◌}
use Rattle.hp_units.specs.Arithmetic.{pageblock_of}
use Rattle.hp_buddy.specs.Buddy.{BuddyValue}
use Rattle.hp_units.proofs.Geometry.{pageblock_in}
use Rattle.hp_buddy.proofs.buddy.Buddy.class_of.Goals as goal

pub kind-requires : goal.kind-requires
kind-requires c =
    let same : pageblock_of c.self.inside.layout c.args.frame
    ≡ pageblock_of c.args.self.now.layout c.args.frame =
    ap (λ (v : BuddyValue). pageblock_of v.layout c.args.frame) c.self.view_is in
    omega (arith, c.pageblock_of.ensures, same, pageblock_in c.args.self.now.layout c.args.frame c.requires)
