use Rattle.std.proofs.Common.{◌≡◌, ℕ, Option, None, replicate, rules}
use Rattle.hp_units.specs.Arithmetic.{frame_count}
use Rattle.hp_units.specs.Memory.{Memory}
use Rattle.hp_plain.proofs.EmptyState.{memory_of}
use Rattle.hp_plain.proofs.Values.{memory_is, memory_value}
use Rattle.hp_plain.proofs.image.Image.empty.Goals as goal

pub invariant_of-result : goal.invariant_of-result
invariant_of-result c =
    let l = c.args.layout.now in
    let s : Memory =
    memory_value c.in_ok-free.free c.in_ok-pages.pages c.in_ok-kernel.kernel.items c.in_ok-blocks.blocks in
    let kernel : s.kernel ≡ replicate {A = Option ℕ} (frame_count l) None =
    rw (c.in_ok-kernel.ensures.items_if_clones_equal (search rules), c.frames.ensures.is) in
    rw c.in_ok-layout.ensures
    (memory_of l s c.in_ok-free.ensures.layout c.in_ok-pages.ensures kernel c.in_ok-blocks.ensures)

pub returns-clause-memory : goal.returns-clause-memory
returns-clause-memory c =
    let kernel : c.in_ok-kernel.kernel.items ≡ replicate {A = Option ℕ} (frame_count c.args.layout.now) None =
    rw (c.in_ok-kernel.ensures.items_if_clones_equal (search rules), c.frames.ensures.is) in
    memory_is _ _ _ _ _ _ _ _ c.in_ok-free.ensures.value c.in_ok-pages.ensures kernel c.in_ok-blocks.ensures
