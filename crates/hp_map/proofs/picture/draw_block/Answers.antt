use Rattle.std.proofs.Common.{ap, ◌∙◌}
use Rattle.hp_map.specs.Cells.{cells_text}
use Rattle.hp_map.proofs.Pictures.{picture_is}
use Rattle.hp_map.proofs.picture.draw_block.Goals as goal

pub returns : goal.returns
returns c =
    picture_is c.args.machine.now.layout c.args.machine.now.state c.args.places.now.items c.args.block
    _ _ _ _ _ _ _ c.new.ensures
    (c.in_ok-cells.ensures ∙ ap (λ l. cells_text l c.args.places.now.items c.args.block) c.layout.ensures)
    c.in_ok-free.ensures c.in_ok-kernel.ensures
