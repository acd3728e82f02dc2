-- The place is the first on the path.
use Rattle.std.proofs.Common.{[], ◌++◌, ℕ, List, ap, arith, sym, ◌∙◌}
use Rattle.hp_explore.specs.LatestOps.{ops_after}
use Rattle.hp_explore.proofs.LatestNumbers.{ops_begin}
use Rattle.hp_explore.proofs.latest_ops.LatestOps.start.Goals as goal

pub returns : goal.returns
returns c =
    λ g at. (
      omega (arith, c.requires, at.many),
      c.in_ok-push_operations.ensures g [] at
          ∙ (ap (λ (ops : List ℕ). ops ++ ops_after g []) c.new-ops.ensures.items ∙ sym (ops_begin g)),
    )
