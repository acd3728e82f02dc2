use Rattle.std.proofs.Common.{◌≡◌, ◌+◌, ◌/◌, ℕ, List, Option, None, replicate, rules, sym, subst, arith}
use Rattle.hp_pages.specs.Kernel.{AreStartsOf}
use Rattle.hp_pages.proofs.Kernel.{no_starts}
use Rattle.hp_pages.proofs.kernel_blocks.KernelBlocks.new.Goals as goal

pub returns : goal.returns
returns c = c.in_ok-orders.ensures.items_if_clones_equal (search rules)

pub invariant_of-result : goal.invariant_of-result
invariant_of-result c =
    let frames = c.args.frames in
    let none : c.in_ok-orders.orders.items ≡ replicate frames None =
    c.in_ok-orders.ensures.items_if_clones_equal (search rules) in
    subst (λ (orders : List (Option ℕ)). AreStartsOf orders c.in_ok-starts.starts) (sym none)
    (subst (AreStartsOf (replicate frames None)) (sym c.in_ok-starts.ensures.none)
    (no_starts frames (frames / 64 + 1) (omega arith)))
