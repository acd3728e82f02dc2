-- The types and variants of the judge, exported again from one place. Declares nothing.
pub use Rattle.hp_judge.specs.declared.events.LogEvent.{LogEvent}
pub use Rattle.hp_judge.specs.declared.events.LogEvent.TheVariants.{Alloc, Free, OnlineBegins, OnlineEnds, OfflineBegins, OfflineEnds, Move, Other}
pub use Rattle.hp_units.specs.declared.rows.Zone.{Zone}
pub use Rattle.hp_judge.specs.declared.events.MachineSize.{MachineSize}
pub use Rattle.hp_judge.specs.declared.faults.Law.{Law}
pub use Rattle.hp_judge.specs.declared.faults.Law.TheVariants.{Once, InUse, Present, Empty, Movable, GoingOnline, GoingOffline, Online, Offline}
pub use Rattle.hp_judge.specs.declared.faults.Fault.{Fault}
pub use Rattle.hp_judge.specs.declared.faults.Fault.TheVariants.{Malformed, Unlawful}
pub use Rattle.hp_judge.specs.declared.faults.NumberedFault.{NumberedFault}
