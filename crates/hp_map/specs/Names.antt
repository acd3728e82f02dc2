-- Exports again, from one place, the types of pools, rows, kinds and states. The variants of pools
-- and states are renamed, such as `Nu` to `NuPool`. Declares nothing.
pub use Rattle.hp_units.specs.declared.rows.Pool.{Pool}
pub use Rattle.hp_units.specs.declared.rows.Pool.TheVariants.{Nu as NuPool, Nm as NmPool, Mm as MmPool}
pub use Rattle.hp_units.specs.declared.rows.Row.{Row}
pub use Rattle.hp_units.specs.declared.rows.Kind.{Kind}
pub use Rattle.hp_units.specs.declared.rows.State.{State}
pub use Rattle.hp_units.specs.declared.rows.State.TheVariants.{Absent as AbsentState, Offline as OfflineState, Online as OnlineState, Going as GoingState}
