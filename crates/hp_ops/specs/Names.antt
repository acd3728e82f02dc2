-- Exports again, from one place, the types and variants of plans, events, replies and drivers that this
-- crate uses. Some variants are renamed, such as `Begin` of a stage to `Begins`. Declares nothing.
pub use Rattle.hp_units.specs.declared.events.Event.TheVariants.{Begin, DrainFor, Migrate, Commit, Cancel}
pub use Rattle.hp_units.specs.declared.replies.Reply.TheVariants.{Done, Moved, Opened, Restored, Released, Refused}
pub use Rattle.hp_units.specs.declared.replies.Refusal.TheVariants.{NoFrame, NoOp, NothingToMove, NotFree}
pub use Rattle.hp_units.specs.declared.replies.OpEnd.TheVariants.{Done as EndsDone, Refused as EndsRefused, Cancelled as EndsCancelled, Undone as EndsUndone, Left as EndsLeft}
pub use Rattle.hp_units.specs.declared.events.Event.{Event}
pub use Rattle.hp_units.specs.declared.plans.Item.{Item}
pub use Rattle.hp_units.specs.declared.replies.Reply.{Reply}
pub use Rattle.hp_units.specs.declared.replies.Refusal.{Refusal}
pub use Rattle.hp_units.specs.declared.replies.Receipt.{Receipt}
pub use Rattle.hp_units.specs.declared.replies.OpEnd.{OpEnd}
pub use Rattle.hp_units.specs.declared.replies.CallFault.{CallFault}
pub use Rattle.hp_ops.specs.declared.stages.Driver.{Driver}
pub use Rattle.hp_ops.specs.declared.stages.Stage.{Stage}
pub use Rattle.hp_ops.specs.declared.stages.Stage.TheVariants.{Begin as Begins, DrainFor as DrainsFor, Migrate as Migrates, Commit as Commits, Cancel as Cancels, Ended}
