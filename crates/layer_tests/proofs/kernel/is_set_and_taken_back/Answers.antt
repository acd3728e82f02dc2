-- As many blocks as the layout of the tests has frames.
use Rattle.std.proofs.Common.{ℕ, List, Option, Some, length, set, ap, ◌∙◌, arith}
use Rattle.layer_tests.specs.SmallLayouts.{two_blocks}
use Rattle.layer_tests.proofs.kernel.is_set_and_taken_back.Goals as goal

pub back-requires : goal.back-requires
back-requires c = (
  two_blocks,
  ap length (c.set.ensures.set ∙ ap (λ (orders : List (Option ℕ)). set orders 2 (Some 1))
      c.requires.none),
  omega arith,
)
