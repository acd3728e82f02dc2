use Rattle.std.proofs.Common.{◌≡◌, string_bytes}
use Rattle.std.specs.List.{flat_map, range_with_len}
use Rattle.hp_map.specs.Cells.{frame_text}
use Rattle.hp_map.proofs.cells.draw_cells.Given as goal

abbrev pub invariant-loop-number : goal.invariant-loop-number
invariant-loop-number l =
    string_bytes l.out ≡ flat_map (frame_text l.layout l.places.items l.fn.block) (range_with_len 0 l.number)
