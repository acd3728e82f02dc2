-- The frame from which a page moves out of the blocks that an operation is taking offline, and the
-- frame to which it moves.
use Rattle.std.specs.Prelude.{Option, find, flat_map, is_some}
use Rattle.std.specs.Option.{option_or}
use Rattle.hp_units.specs.Numbers.{Frame, Serial}
use Rattle.hp_units.specs.Names.{Nm, Mm, Movable}
use Rattle.hp_units.specs.LayoutParts.{LayoutParts}
use Rattle.hp_units.specs.Arithmetic.{frames_of_block}
use Rattle.hp_units.specs.Memory.{FreeAreas, Memory}
use Rattle.hp_units.specs.FreeAreas.{Taken, take_block, steal_block}
use Rattle.hp_units.specs.Pages.{page_at}
use Rattle.hp_units.specs.Rows.{going_blocks}

-- the lowest mapped frame of the blocks that an operation is taking offline
abbrev pub migration_source : LayoutParts → Memory → Serial → Option Frame
migration_source l s op =
    find (λ frame. is_some (page_at s.pages frame))
    (flat_map (frames_of_block l) (going_blocks l s.blocks op))

-- the frame that a page moves to, taken straight from the areas
abbrev pub migration_target : LayoutParts → FreeAreas → Option Taken
migration_target l a =
    option_or (take_block l a Mm 0) (option_or (take_block l a Nm 0) (steal_block l a Movable 0))
