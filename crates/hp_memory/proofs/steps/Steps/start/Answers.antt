-- The memory of the image, no delta, and the records given.
use Rattle.std.proofs.Common.{◌∙◌, ap, List}
use Rattle.hp_tape.specs.declared.deltas.Delta.{Delta}
use Rattle.hp_memory.specs.Memory.{MemoryValue}
use Rattle.hp_memory.proofs.Made.{value_with}
use Rattle.hp_memory.proofs.steps.Steps.start.Goals as goal

pub returns : goal.returns
returns c =
    ap (λ (m : MemoryValue). value_with m c.in_ok-tape.tape.deltas c.args.records.items)
    c.in_ok-memory.ensures
    ∙ ap (λ (d : List Delta). value_with (record {
      layout = c.args.image.now.layout;
      state = c.args.image.now.memory;
    }) d c.args.records.items) c.in_ok-tape.ensures.none
