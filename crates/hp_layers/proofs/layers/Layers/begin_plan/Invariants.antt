use Rattle.std.proofs.Common.{ℕ, ◌≡◌, ◌≤◌, ◌*◌}
use Rattle.std.specs.List.{fold, range_with_len}
use Rattle.hp_units.specs.Memory.{row_of}
use Rattle.hp_units.specs.Rows.{begin_block}
use Rattle.hp_tape.specs.Bounds.{moved_block_bound}
use Rattle.hp_layers.specs.Layers.{state_of}
use Rattle.hp_layers.specs.Operations.{IsReworked, claimed_below}
use Rattle.hp_layers.proofs.layers.Layers.begin_plan.Given as goal

abbrev pub invariant-loop-number : goal.invariant-loop-number
invariant-loop-number l = record {
  done :
      IsReworked l.initial.self (fold (begin_block l.initial.self.layout l.fn.op l.fn.plan)
      (state_of l.initial.self) (range_with_len 0 l.number))
      (claimed_below l.fn.plan l.number * moved_block_bound l.initial.self.layout) l.self l.initial.tape
      l.tape;
  later :
      (block : ℕ) → l.number ≤ block
      → row_of l.self.blocks.blocks block ≡ row_of l.initial.self.blocks.blocks block;
}
