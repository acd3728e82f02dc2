use Rattle.std.proofs.Common.{◌≡◌, ℕ, ◌+◌, ◌*◌, ◌^◌, ◌<◌, ◌≤◌, true}
use Rattle.std.specs.List.{fold, range_with_len}
use Rattle.hp_units.specs.FreeAreas.{is_on}
use Rattle.hp_units.specs.Isolation.{remove_pageblock}
use Rattle.hp_units.specs.Memory.{free_list, isolated_class}
use Rattle.hp_layers.specs.Frames.{IsGiven, free_of}
use Rattle.hp_layers.proofs.frames.Frames.remove_block.Given as goal

abbrev pub invariant-loop-number : goal.invariant-loop-number
invariant-loop-number l = record {
  done :
      IsGiven
      (record (free_of l.initial.self) {
        areas = fold (remove_pageblock l.fn.layout l.fn.zone)
            l.initial.self.buddy.areas (range_with_len (l.fn.block * l.fn.layout.pageblocks) l.number);
      })
      (l.number * 2) l.initial.self l.self l.initial.tape l.tape;
  free : (other : ℕ) → l.fn.block * l.fn.layout.pageblocks + l.number ≤ other
      → other < l.fn.block * l.fn.layout.pageblocks + l.fn.layout.pageblocks
      → is_on (other * 2 ^ l.fn.layout.order)
      (free_list l.self.buddy.areas (isolated_class l.fn.zone) l.fn.layout.order) ≡ true;
}
