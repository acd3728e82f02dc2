-- Exports again, from one place, types and variants of rows, plans, events, replies and marks. Some
-- variants are renamed, such as `Normal` to `NormalZone`. Declares nothing.
pub use Rattle.hp_units.specs.declared.rows.Zone.TheVariants.{Normal as NormalZone, Movable as MovableZone}
pub use Rattle.hp_units.specs.declared.rows.Mobility.TheVariants.{Unmovable, Movable}
pub use Rattle.hp_units.specs.declared.rows.Class.TheVariants.{Nu, Nm, Mm, IsoN, IsoM}
pub use Rattle.hp_units.specs.declared.rows.Pool.TheVariants.{Nu as NuPool, Nm as NmPool, Mm as MmPool}
pub use Rattle.hp_units.specs.declared.rows.State.TheVariants.{Offline as OfflineState, Online as OnlineState, Going as GoingState, Absent as AbsentState}
pub use Rattle.hp_units.specs.declared.rows.Wish.TheVariants.{Off as OffWish, Normal as NormalWish, Movable as MovableWish}
pub use Rattle.hp_units.specs.declared.rows.Boot.TheVariants.{Offline as OfflineBoot, Normal as NormalBoot, Movable as MovableBoot, Absent as AbsentBoot}
pub use Rattle.hp_units.specs.declared.rows.Auto.TheVariants.{Offline as OfflineAuto, Online as OnlineAuto, OnlineKernel as KernelAuto, OnlineMovable as MovableAuto}
pub use Rattle.hp_units.specs.declared.events.Event.TheVariants.{KernelAlloc, KernelFree, Map, Unmap, Write, Read, Drain, Online, Begin, DrainFor, Migrate, Commit, Cancel, UndoAfter, Probe, Remove, SetAuto}
pub use Rattle.hp_units.specs.declared.replies.Reply.TheVariants.{Done, Frame as GivesFrame, Word, Moved, Opened, Restored, Released, Undone, Refused}
pub use Rattle.hp_units.specs.declared.replies.Refusal.TheVariants.{NoOwner, NoPage, NoWord, AlreadyMapped, NotMapped, BadOrder, NoFrame, NoSuchFrame, NotKernel, NoCpu, NoBlock, EmptyPlan, Twice, Busy, NotOnline, NotOffline, Unmovable as HoldsUnmovable, NoOp, NothingToMove, NotFree, Gone, BadAddress, NotAbsent}
pub use Rattle.hp_units.specs.declared.replies.OpEnd.TheVariants.{Done as EndsDone, Refused as EndsRefused, Cancelled as EndsCancelled, Undone as EndsUndone, Left as EndsLeft}
pub use Rattle.hp_units.specs.declared.replies.CallFault.TheVariants.{HistoryFull, OutOfMemory}
pub use Rattle.hp_units.specs.declared.rows.Zone.{Zone}
pub use Rattle.hp_units.specs.declared.rows.Mobility.{Mobility}
pub use Rattle.hp_units.specs.declared.rows.Class.{Class}
pub use Rattle.hp_units.specs.declared.rows.Pool.{Pool}
pub use Rattle.hp_units.specs.declared.rows.State.{State}
pub use Rattle.hp_units.specs.declared.rows.Wish.{Wish}
pub use Rattle.hp_units.specs.declared.rows.Boot.{Boot}
pub use Rattle.hp_units.specs.declared.rows.Auto.{Auto}
pub use Rattle.hp_units.specs.declared.rows.Kind.{Kind}
pub use Rattle.hp_units.specs.declared.rows.Row.{Row}
pub use Rattle.hp_units.specs.declared.rows.Claim.{Claim}
pub use Rattle.hp_units.specs.declared.plans.Item.{Item}
pub use Rattle.hp_units.specs.declared.events.Event.{Event}
pub use Rattle.hp_units.specs.declared.replies.Reply.{Reply}
pub use Rattle.hp_units.specs.declared.replies.Refusal.{Refusal}
pub use Rattle.hp_units.specs.declared.replies.Record.{Record}
pub use Rattle.hp_units.specs.declared.replies.Receipt.{Receipt}
pub use Rattle.hp_units.specs.declared.replies.OpEnd.{OpEnd}
pub use Rattle.hp_units.specs.declared.replies.CallFault.{CallFault}
pub use Rattle.hp_units.specs.declared.marks.Mark.TheVariants.{Opens, Works, Other}
pub use Rattle.hp_units.specs.declared.marks.Mark.{Mark}
pub use Rattle.hp_units.specs.declared.marks.Tag.{Tag}
