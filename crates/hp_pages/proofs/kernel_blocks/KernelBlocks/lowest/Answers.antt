use Rattle.std.proofs.Common.{◌≡◌, ◌+◌, ◌≤◌, List, Option, None, ℕ, length, get_or, subst, sym}
use Rattle.std.specs.Prelude.{find, is_some}
use Rattle.std.specs.List.{range_with_len}
use Rattle.hp_pages.proofs.Kernel.{lowest_start}
use Rattle.hp_pages.proofs.kernel_blocks.KernelBlocks.lowest.Goals as goal

pub returns : goal.returns
returns c =
    subst (λ (orders : List (Option ℕ)). c.lowest.result
    ≡ find (λ frame. is_some (get_or orders frame None))
    (range_with_len c.args.first c.args.count)) c.self.view_is
    (lowest_start c.self.inside.orders.items c.self.inside.starts c.args.first c.args.count c.lowest.result
    c.self.invariant (subst (λ (orders : List (Option ℕ)). c.args.first + c.args.count ≤ length orders)
    (sym c.self.view_is) c.requires.within) c.lowest.ensures)
