use Rattle.std.proofs.Common.{◌≡◌, ◌++◌, string_bytes}
use Rattle.hp_units.specs.Memory.{free_list}
use Rattle.hp_text.specs.State.{free_line, texts_below}
use Rattle.hp_text.proofs.state.write_class.Given as goal

abbrev pub invariant-loop-number : goal.invariant-loop-number
invariant-loop-number l =
    string_bytes l.out ≡ string_bytes l.fn.out ++ texts_below
    (λ order. free_line l.class order (free_list l.image.memory.free.areas l.class order)) l.number
