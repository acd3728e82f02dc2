-- Which layer a delta belongs to.
use Rattle.hp_tape.specs.declared.deltas.Delta.{Delta}
use Rattle.hp_tape.specs.declared.deltas.Delta.TheVariants.{Link, Unlink, Kind as KindDelta, Kernel as KernelDelta, Map as MapDelta, Swap, Word as WordDelta, LargeWord, Filled, Emptied, Row as RowDelta, Auto as AutoDelta}
use Rattle.hp_tape.specs.declared.deltas.ListId.TheVariants.{Area, Cpu}
use Rattle.hp_layers.specs.declared.parts.Part.{Part}
use Rattle.hp_layers.specs.declared.parts.Part.TheVariants.{Areas, Lists, Pages, Kernel, Blocks}

-- the layer that a delta belongs to
abbrev pub part_of : Delta → Part
part_of (Link (Area class order) frame after) = Areas
part_of (Link (Cpu pool cpu) frame after) = Lists
part_of (Unlink (Area class order) frame after) = Areas
part_of (Unlink (Cpu pool cpu) frame after) = Lists
part_of (KindDelta pageblock was now) = Areas
part_of (KernelDelta frame was now) = Kernel
part_of (MapDelta owner page change) = Pages
part_of (Swap a b) = Pages
part_of (WordDelta index frame was now) = Pages
part_of (LargeWord index frame change) = Pages
part_of (Filled index frame now) = Pages
part_of (Emptied frame words) = Pages
part_of (RowDelta change) = Blocks
part_of (AutoDelta was now) = Blocks
