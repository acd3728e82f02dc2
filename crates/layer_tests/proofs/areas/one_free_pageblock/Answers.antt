-- The first pageblock is one of the layout, and nothing of it is free.
use Rattle.std.proofs.Common.{◌*◌, sym, subst, arith}
use Rattle.hp_units.specs.Arithmetic.{pageblock_size}
use Rattle.hp_buddy.specs.Buddy.{BuddyValue, MayBeGiven}
use Rattle.hp_buddy.proofs.Empty.{first_block}
use Rattle.layer_tests.proofs.areas.one_free_pageblock.Goals as goal

pub add_pageblock-requires-clause-block : goal.add_pageblock-requires-clause-block
add_pageblock-requires-clause-block c =
    subst (λ (b : BuddyValue). MayBeGiven b.layout b.areas b.layout.order (0 * pageblock_size b.layout))
    (sym c.in_ok-buddy.ensures.value)
    (first_block c.args.layout.now (rw c.requires (omega arith)) (rw c.requires (omega arith)))
