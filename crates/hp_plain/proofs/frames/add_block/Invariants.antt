use Rattle.std.proofs.Common.{◌≡◌}
use Rattle.std.specs.List.{fold, range_with_len}
use Rattle.hp_units.specs.InLayout.{AreFreeAreasOf}
use Rattle.hp_units.specs.Isolation.{add_pageblock}
use Rattle.hp_plain.proofs.frames.add_block.Given as goal

abbrev pub invariant-loop-number : goal.invariant-loop-number
invariant-loop-number l = record {
  value : l.areas ≡ fold (add_pageblock l.layout l.zone) l.fn.areas (range_with_len l.first l.number);
  layout : AreFreeAreasOf l.layout l.areas;
}
