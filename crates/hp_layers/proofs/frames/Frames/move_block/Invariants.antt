use Rattle.std.proofs.Common.{◌*◌}
use Rattle.std.specs.List.{fold, range_with_len}
use Rattle.hp_units.specs.Isolation.{move_pageblock}
use Rattle.hp_tape.specs.Bounds.{move_bound}
use Rattle.hp_layers.specs.Frames.{IsGiven, free_of}
use Rattle.hp_layers.proofs.frames.Frames.move_block.Given as goal

abbrev pub invariant-loop-number : goal.invariant-loop-number
invariant-loop-number l = record {
  done :
      IsGiven
      (record (free_of l.initial.self) {
        areas = fold (move_pageblock l.fn.layout l.fn.zone l.fn.isolated)
            l.initial.self.buddy.areas (range_with_len (l.fn.block * l.fn.layout.pageblocks) l.number);
      })
      (l.number * move_bound l.fn.layout) l.initial.self l.self l.initial.tape l.tape;
}
