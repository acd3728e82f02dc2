use Rattle.std.proofs.Common.{◌≡◌, refl, sym, ◌∙◌, ap}
use Rattle.hp_units.specs.Memory.{Blocks}
use Rattle.hp_tape.specs.declared.deltas.Delta.{Delta}
use Rattle.hp_tape.specs.declared.deltas.Delta.TheVariants.{Link, Unlink, Kind as KindDelta, Kernel as KernelDelta, Map as MapDelta, Swap, Word as WordDelta, LargeWord, Filled, Emptied}
use Rattle.hp_tape.specs.declared.deltas.ListId.TheVariants.{Area, Cpu}
use Rattle.hp_tape.specs.Deltas.{FrameView, blocks_undo, undo}
use Rattle.hp_layers.specs.declared.parts.Part.TheVariants.{Blocks as BlocksPart}
use Rattle.hp_layers.specs.Layers.{view_of}
use Rattle.hp_layers.specs.Parts.{part_of}
use Rattle.hp_layers.proofs.layers.Layers.back.Goals as goal

abbrev with_blocks : FrameView → Blocks → FrameView
with_blocks v b = record { free = v.free; pages = v.pages; kernel = v.kernel; blocks = b }

rows-alone : (delta : Delta) (v : FrameView) → part_of delta ≡ BlocksPart
    → with_blocks v (blocks_undo delta v.blocks) ≡ undo delta v
rows-alone (Link (Area class order) frame after) v is = absurd cc
rows-alone (Link (Cpu pool cpu) frame after) v is = absurd cc
rows-alone (Unlink (Area class order) frame after) v is = absurd cc
rows-alone (Unlink (Cpu pool cpu) frame after) v is = absurd cc
rows-alone (KindDelta pageblock was now) v is = absurd cc
rows-alone (KernelDelta frame was now) v is = absurd cc
rows-alone (MapDelta owner page change) v is = absurd cc
rows-alone (Swap a b) v is = absurd cc
rows-alone (WordDelta index frame was now) v is = absurd cc
rows-alone (LargeWord index frame change) v is = absurd cc
rows-alone (Filled index frame now) v is = absurd cc
rows-alone (Emptied frame words) v is = absurd cc
rows-alone _ v is = refl

pub returns-in-Blocks-clause-back : goal.returns-in-Blocks-clause-back
returns-in-Blocks-clause-back c =
    ap (with_blocks (view_of c.args.self.now)) c.back-in-Blocks.ensures.back
    ∙ rows-alone c.args.delta (view_of c.args.self.now) (sym c.part_of.ensures ∙ c.in-Blocks.is)
