-- Blocks for the kernel.
use Rattle.std.specs.Prelude.{zero, suc, Option}
use Rattle.std.specs.Option.{option_or}
use Rattle.hp_units.specs.Numbers.{Order, Cpu}
use Rattle.hp_units.specs.Names.{Nu, Unmovable}
use Rattle.hp_units.specs.LayoutParts.{LayoutParts}
use Rattle.hp_units.specs.Memory.{FreeFrames}
use Rattle.hp_units.specs.FreeAreas.{take_block, steal_block}
use Rattle.hp_units.specs.ProcessorLists.{Handed, handed_from, kernel_frame}

-- a kernel block: at order 0 a frame from the processor's list, or else a stolen one; at a greater
-- order straight from the areas, or else stolen (Gorman, chapter 6)
abbrev pub kernel_block : LayoutParts → FreeFrames → (cpu : Cpu) (order : Order) → Option Handed
kernel_block l fs cpu zero = kernel_frame l fs cpu
kernel_block l fs cpu (suc below) =
    handed_from fs
    (option_or (take_block l fs.areas Nu (suc below)) (steal_block l fs.areas Unmovable (suc below)))
