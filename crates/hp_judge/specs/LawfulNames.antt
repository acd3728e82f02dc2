-- Exports again, from one place, types and variants of this crate and of hp_units, for the logs of our own
-- machine. Some variants are renamed, such as `Normal` to `NormalZone` or `NormalWish`. Declares nothing.
pub use Rattle.hp_judge.specs.declared.events.LogEvent.{LogEvent}
pub use Rattle.hp_judge.specs.declared.events.LogEvent.TheVariants.{Alloc, Free, OnlineBegins, OnlineEnds, OfflineBegins, OfflineEnds, Move}
pub use Rattle.hp_judge.specs.declared.events.MachineSize.{MachineSize}
pub use Rattle.hp_judge.specs.declared.faults.Law.{Law}
pub use Rattle.hp_judge.specs.declared.faults.Law.TheVariants.{Once, InUse, Present, Empty, Movable as MovableLaw, GoingOnline as GoingOnlineLaw, GoingOffline as GoingOfflineLaw, Online as OnlineLaw, Offline as OfflineLaw}
pub use Rattle.hp_units.specs.declared.rows.Zone.{Zone}
pub use Rattle.hp_units.specs.declared.rows.Zone.TheVariants.{Normal as NormalZone, Movable as MovableZone}
pub use Rattle.hp_units.specs.declared.rows.State.{State}
pub use Rattle.hp_units.specs.declared.rows.State.TheVariants.{Offline as OfflineState, Online as OnlineState, Going as GoingState, Absent as AbsentState}
pub use Rattle.hp_units.specs.declared.rows.Wish.{Wish}
pub use Rattle.hp_units.specs.declared.rows.Wish.TheVariants.{Off as OffWish, Normal as NormalWish, Movable as MovableWish}
pub use Rattle.hp_units.specs.declared.rows.Claim.{Claim}
pub use Rattle.hp_units.specs.declared.rows.Row.{Row}
pub use Rattle.hp_units.specs.declared.replies.Record.{Record}
