use Rattle.std.proofs.Common.{◌≡◌, Some, sym, ◌∙◌}
use Rattle.std.specs.Option.{option_map}
use Rattle.hp_units.specs.Memory.{row_of}
use Rattle.hp_layers.proofs.Committed.{granted, may-come, may-go, ungranted}
use Rattle.hp_layers.proofs.layers.Layers.commit_block.Goals as goal
use Rattle.hp_layers.proofs.layers.Layers.commit_block.Goals.{In-Some}

wish_is : (c : In-Some)
    → option_map (λ claim. claim.wish) (row_of c.args.self.now.blocks.blocks c.args.block).claim
    ≡ Some c.in-Some.wish
wish_is c = sym c.wish_of.ensures ∙ c.in-Some.is

pub grant-requires-clause-off : goal.grant-requires-clause-off
grant-requires-clause-off c =
    may-go c.args.self.now c.args.block c.in-Some.wish c.requires.placed c.requires.ready
    (wish_is (goal.at.grant-requires-clause-off c).In-Some)

pub grant-requires-clause-on : goal.grant-requires-clause-on
grant-requires-clause-on c =
    may-come c.args.self.now c.args.block c.in-Some.wish c.requires.placed
    (wish_is (goal.at.grant-requires-clause-on c).In-Some)

pub returns-in-Some : goal.returns-in-Some
returns-in-Some c =
    granted c.args.self.now c.grant.new.self c.args.block c.in-Some.wish _ c.args.tape.now c.grant.new.tape
    (wish_is (goal.at.returns-in-Some c).In-Some) c.grant.ensures

pub returns-in_default : goal.returns-in_default
returns-in_default c =
    ungranted c.args.self.now c.args.block _ c.args.tape.now c.requires.placed (cc c.in_default.ensures)
