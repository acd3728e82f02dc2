use Rattle.layer_tests.proofs.layouts.two_blocks.Goals as goal

-- the parts are numbers, so both sides compute to the same layout
pub returns : goal.returns
returns c = c.new.ensures.ok
