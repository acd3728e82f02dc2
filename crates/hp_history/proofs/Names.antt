-- The variants of the events and replies under names of their own, passed on from one place.
-- Declares nothing.
pub use Rattle.hp_units.specs.declared.events.Event.TheVariants.{KernelAlloc, KernelFree, Map, Unmap, Write, Read, Drain, Online, Begin, DrainFor, Migrate, Commit, Cancel, UndoAfter, Probe, Remove, SetAuto}
pub use Rattle.hp_units.specs.declared.replies.Reply.TheVariants.{Done, Frame as GivesFrame, Word, Moved, Opened, Restored, Released, Undone, Refused}
pub use Rattle.hp_units.specs.declared.replies.Refusal.TheVariants.{NoOwner, NoPage, NoWord, AlreadyMapped, NotMapped, BadOrder, NoFrame, NoSuchFrame, NotKernel, NoCpu, NoBlock, EmptyPlan, Twice, Busy, NotOnline, NotOffline, Unmovable as HoldsUnmovable, NoOp, NothingToMove, NotFree, Gone, BadAddress, NotAbsent}
pub use Rattle.hp_units.specs.declared.events.Event.{Event}
pub use Rattle.hp_units.specs.declared.replies.Reply.{Reply}
pub use Rattle.hp_units.specs.declared.replies.Refusal.{Refusal}
pub use Rattle.hp_units.specs.declared.replies.Record.{Record}
pub use Rattle.hp_units.specs.declared.marks.Mark.TheVariants.{Opens, Works, Other}
pub use Rattle.hp_units.specs.declared.marks.Mark.{Mark}
pub use Rattle.hp_units.specs.declared.marks.Tag.{Tag}
pub use Rattle.hp_units.specs.declared.plans.Item.{Item}
