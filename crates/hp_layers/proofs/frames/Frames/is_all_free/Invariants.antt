use Rattle.std.proofs.Common.{◌≡◌, ◌+◌, ◌-◌, ◌*◌}
use Rattle.std.specs.List.{list_all, range_with_len}
use Rattle.hp_units.specs.Arithmetic.{pageblock_size, pageblocks_of}
use Rattle.hp_units.specs.FreeAreas.{is_on}
use Rattle.hp_units.specs.Memory.{free_list, isolated_class}
use Rattle.hp_layers.proofs.frames.Frames.is_all_free.Given as goal

abbrev pub invariant-loop-number : goal.invariant-loop-number
invariant-loop-number l =
    list_all (λ pageblock. is_on (pageblock * pageblock_size l.layout) (free_list l.self.buddy.areas
    (isolated_class l.zone) l.layout.order)) (pageblocks_of l.layout l.fn.block)
    ≡ list_all (λ pageblock. is_on (pageblock * pageblock_size l.layout)
    (free_list l.self.buddy.areas (isolated_class l.zone) l.layout.order)) (range_with_len
    (l.first + l.number) (l.layout.pageblocks - l.number))
