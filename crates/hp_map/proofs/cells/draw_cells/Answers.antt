use Rattle.std.proofs.Common.{◌≡◌, [], refl}
use Rattle.hp_map.specs.Cells.{cell_text, frame_text}
use Rattle.hp_map.proofs.Texts.{items_more}
use Rattle.hp_map.proofs.cells.draw_cells.Goals as goal

pub loop-number-preserved : goal.loop-number-preserved
loop-number-preserved c =
    let piece : cell_text c.starts_later.result c.sign.result
    ≡ frame_text c.args.layout.now c.args.places.now.items c.args.block c.loop-number.number =
    rw (
      c.starts_later.ensures,
      c.sign.ensures.is,
      c.place_at-place.ensures,
      c.first_of-first.ensures.is,
    ) refl in
    items_more (frame_text c.args.layout.now c.args.places.now.items c.args.block)
    c.loop-number.number [] _ _ _ c.loop-number.invariant c.in_ok-write_cell.ensures piece
