use Rattle.std.proofs.Common.{ℕ, List, Option, sym, ◌∙◌, subst}
use Rattle.hp_pages.specs.Kernel.{AreStartsOf}
use Rattle.hp_pages.proofs.kernel_blocks.KernelBlocks.copy.Goals as goal

pub returns : goal.returns
returns c = c.in_ok-orders.ensures.items ∙ c.as_slice.ensures.value ∙ c.self.view_is

pub invariant_of-result : goal.invariant_of-result
invariant_of-result c =
    let old = c.self.inside in
    let starts = c.in_ok-starts.starts in
    subst (λ (orders : List (Option ℕ)). AreStartsOf orders starts)
    (sym (c.in_ok-orders.ensures.items ∙ c.as_slice.ensures.value))
    (subst (AreStartsOf old.orders.items) (sym c.in_ok-starts.ensures) c.self.invariant)
