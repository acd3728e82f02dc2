use Rattle.std.proofs.Common.{◌*◌, take}
use Rattle.std.specs.List.{fold}
use Rattle.hp_units.specs.Rows.{commit_block}
use Rattle.hp_tape.specs.Bounds.{committed_block_bound}
use Rattle.hp_layers.specs.Layers.{state_of}
use Rattle.hp_layers.specs.Operations.{IsReworked}
use Rattle.hp_layers.proofs.Committed.{IsCommitting}
use Rattle.hp_layers.proofs.layers.Layers.commit_blocks.Given as goal

abbrev pub invariant-loop-block : goal.invariant-loop-block
invariant-loop-block l = record {
  done :
      IsReworked l.initial.self
      (fold (commit_block l.initial.self.layout) (state_of l.initial.self) (take l.block-index l.fn.blocks))
      (l.block-index * committed_block_bound l.initial.self.layout) l.self l.initial.tape l.tape;
  middle :
      IsCommitting l.initial.self.layout (state_of l.initial.self) l.fn.blocks l.block-index
      (fold (commit_block l.initial.self.layout) (state_of l.initial.self) (take l.block-index l.fn.blocks));
}
