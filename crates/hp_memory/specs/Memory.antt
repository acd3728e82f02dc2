-- The value of a machine's memory in contracts, and what is needed to lead it back.
use Rattle.std.specs.Prelude.{List}
use Rattle.std.specs.List.{AllByRecursion}
use Rattle.hp_units.specs.LayoutParts.{LayoutParts}
use Rattle.hp_units.specs.Memory.{Memory}
use Rattle.hp_units.specs.Placement.{IsWellPlaced}
use Rattle.hp_tape.specs.declared.deltas.Delta.{Delta}
use Rattle.hp_tape.specs.Deltas.{Fits, IsDeltaOf, frame_view_of, undo}
use Rattle.hp_tape.specs.Tapes.{LeadBack}

-- a layout and a well placed state
pub record MemoryValue : Type 0 where
  pub layout : LayoutParts
  pub state : Memory

-- the deltas lead from one state's frame view back to that of an earlier state, which is well
-- placed
pub record LeadsBack (l : LayoutParts) (deltas : List Delta) (later earlier : Memory) : Type 0 where
  pub placed : IsWellPlaced l earlier
  pub numbers : AllByRecursion (IsDeltaOf l) deltas
  pub lead : LeadBack Fits undo deltas (frame_view_of l later) (frame_view_of l earlier)
