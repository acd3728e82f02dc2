use Rattle.hp_map.specs.Pictures.{ArePictures}
use Rattle.hp_map.proofs.picture.draw_blocks.Given as goal

abbrev pub invariant-loop-number : goal.invariant-loop-number
invariant-loop-number l =
    ArePictures l.machine.layout l.machine.state l.places.items l.number l.blocks.items
