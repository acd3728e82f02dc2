-- Exports again, from one place, the types and variants of plans, events, replies and faults that this
-- crate uses. Declares nothing.
pub use Rattle.hp_units.specs.declared.events.Event.TheVariants.{KernelAlloc, KernelFree, Map, Unmap, Write, Read, Drain, Online, Begin, DrainFor, Migrate, Commit, Cancel, UndoAfter, Probe, Remove, SetAuto}
pub use Rattle.hp_units.specs.declared.replies.Reply.TheVariants.{Done, Moved, Released, Refused}
pub use Rattle.hp_units.specs.declared.replies.Refusal.TheVariants.{NoCpu, NoFrame, NoOp, NothingToMove, NotFree}
pub use Rattle.hp_units.specs.declared.replies.CallFault.TheVariants.{HistoryFull, OutOfMemory}
pub use Rattle.hp_units.specs.declared.events.Event.{Event}
pub use Rattle.hp_units.specs.declared.plans.Item.{Item}
pub use Rattle.hp_units.specs.declared.replies.Reply.{Reply}
pub use Rattle.hp_units.specs.declared.replies.Refusal.{Refusal}
pub use Rattle.hp_units.specs.declared.replies.Record.{Record}
pub use Rattle.hp_units.specs.declared.replies.Receipt.{Receipt}
pub use Rattle.hp_units.specs.declared.replies.CallFault.{CallFault}
