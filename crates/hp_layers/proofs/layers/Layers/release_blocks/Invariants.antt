use Rattle.std.proofs.Common.{◌*◌, take}
use Rattle.std.specs.List.{fold}
use Rattle.hp_units.specs.Rows.{release_block}
use Rattle.hp_tape.specs.Bounds.{moved_block_bound}
use Rattle.hp_layers.specs.Layers.{state_of}
use Rattle.hp_layers.specs.Operations.{IsReworked}
use Rattle.hp_layers.proofs.layers.Layers.release_blocks.Given as goal

abbrev pub invariant-loop-block : goal.invariant-loop-block
invariant-loop-block l = record {
  done :
      IsReworked l.initial.self (fold (release_block l.initial.self.layout) (state_of l.initial.self)
      (take l.block-index l.fn.blocks)) (l.block-index * moved_block_bound l.initial.self.layout)
      l.self l.initial.tape l.tape;
}
