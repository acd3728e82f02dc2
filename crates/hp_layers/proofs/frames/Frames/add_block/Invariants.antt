use Rattle.std.proofs.Common.{◌≡◌, ℕ, ◌+◌, ◌*◌, ◌^◌, ◌≤◌}
use Rattle.std.specs.List.{fold, range_with_len}
use Rattle.hp_units.specs.Isolation.{add_pageblock}
use Rattle.hp_layers.specs.Frames.{IsGiven, free_of, places_of}
use Rattle.hp_layers.proofs.frames.Frames.add_block.Given as goal

abbrev pub invariant-loop-number : goal.invariant-loop-number
invariant-loop-number l = record {
  done :
      IsGiven
      (record (free_of l.initial.self) {
        areas = fold (add_pageblock l.fn.layout l.fn.zone)
            l.initial.self.buddy.areas (range_with_len (l.fn.block * l.fn.layout.pageblocks) l.number);
      })
      (l.number * 1) l.initial.self l.self l.initial.tape l.tape;
  later : (other : ℕ) → (l.fn.block * l.fn.layout.pageblocks + l.number) * 2 ^ l.fn.layout.order ≤ other
      → places_of l.self other ≡ places_of l.initial.self other;
}
