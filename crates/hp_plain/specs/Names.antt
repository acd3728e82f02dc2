-- Exports again, from one place, types and variants of rows. Some variants are renamed, such as
-- `Nu` to `NuPool`. Declares nothing.
pub use Rattle.hp_units.specs.declared.rows.Boot.TheVariants.{Offline as OfflineBoot, Absent as AbsentBoot}
pub use Rattle.hp_units.specs.declared.rows.Boot.{Boot}
pub use Rattle.hp_units.specs.declared.rows.Class.{Class}
pub use Rattle.hp_units.specs.declared.rows.Class.TheVariants.{IsoM, IsoN, Mm, Nm, Nu}
pub use Rattle.hp_units.specs.declared.rows.Kind.{Kind}
pub use Rattle.hp_units.specs.declared.rows.Mobility.{Mobility}
pub use Rattle.hp_units.specs.declared.rows.Mobility.TheVariants.{Movable, Unmovable}
pub use Rattle.hp_units.specs.declared.rows.Pool.{Pool}
pub use Rattle.hp_units.specs.declared.rows.Pool.TheVariants.{Nu as NuPool, Nm as NmPool, Mm as MmPool}
pub use Rattle.hp_units.specs.declared.rows.Row.{Row}
pub use Rattle.hp_units.specs.declared.rows.Zone.{Zone}
pub use Rattle.hp_units.specs.declared.rows.Zone.TheVariants.{Normal as NormalZone, Movable as MovableZone}
