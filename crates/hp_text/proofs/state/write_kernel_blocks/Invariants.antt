use Rattle.std.proofs.Common.{◌≡◌, ◌++◌, string_bytes}
use Rattle.hp_units.specs.Memory.{kernel_order}
use Rattle.hp_text.specs.State.{kernel_line, texts_below}
use Rattle.hp_text.proofs.state.write_kernel_blocks.Given as goal

abbrev pub invariant-loop-number : goal.invariant-loop-number
invariant-loop-number l =
    string_bytes l.out ≡ string_bytes l.fn.out
    ++ texts_below (λ frame. kernel_line frame (kernel_order l.image.memory frame)) l.number
