use Rattle.std.proofs.Common.{◌≡◌, ◌≤◌, ◌-◌}
use Rattle.hp_layers.specs.Layers.{state_of}
use Rattle.hp_layers.specs.Migrations.{source_from}
use Rattle.hp_layers.proofs.layers.Layers.migration_source.Given as goal

abbrev pub invariant-loop-block : goal.invariant-loop-block
invariant-loop-block l = record {
  within : l.first ≤ l.fn.self.layout.blocks;
  left :
      source_from l.fn.self.layout (state_of l.fn.self) l.fn.op 0 l.fn.self.layout.blocks
      ≡ source_from l.fn.self.layout (state_of l.fn.self) l.fn.op l.first
      (l.fn.self.layout.blocks - l.first);
}

abbrev pub decreases-loop-block : goal.decreases-loop-block
decreases-loop-block l = l.fn.self.layout.blocks - l.first
