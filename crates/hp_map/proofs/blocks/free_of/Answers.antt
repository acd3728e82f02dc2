use Rattle.std.proofs.Common.{◌≡◌, [], refl}
use Rattle.hp_map.specs.Blocks.{free_at, free_frame}
use Rattle.hp_map.proofs.Texts.{items_more}
use Rattle.hp_map.proofs.blocks.free_of.Goals as goal

pub loop-number-preserved : goal.loop-number-preserved
loop-number-preserved c =
    let layout = c.args.machine.now.layout in
    let areas = c.args.machine.now.state.free.areas in
    let piece : free_at c.cell_at.result c.place-place.result
    ≡ free_frame layout areas c.args.block c.loop-number.number =
    rw (
      c.cell_at.ensures,
      c.place-place.ensures.place,
      c.buddy.ensures,
      c.first_of-first.ensures.is,
      c.layout-layout.ensures,
    ) refl in
    items_more (free_frame layout areas c.args.block) c.loop-number.number [] _ _ _
    c.loop-number.invariant c.in_ok-add_free.ensures piece
