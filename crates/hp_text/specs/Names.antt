-- Exports again, from one place, the types and variants of rows and of control files. Some variants are
-- renamed, such as `Normal` to `NormalZone`. Declares nothing.
pub use Rattle.hp_units.specs.declared.rows.Zone.{Zone}
pub use Rattle.hp_units.specs.declared.rows.Zone.TheVariants.{Normal as NormalZone, Movable as MovableZone}
pub use Rattle.hp_units.specs.declared.rows.Class.{Class}
pub use Rattle.hp_units.specs.declared.rows.Class.TheVariants.{Nu, Nm, Mm, IsoN, IsoM}
pub use Rattle.hp_units.specs.declared.rows.State.{State}
pub use Rattle.hp_units.specs.declared.rows.State.TheVariants.{Offline as OfflineState, Online as OnlineState, Going as GoingState, Absent as AbsentState}
pub use Rattle.hp_units.specs.declared.rows.Auto.{Auto}
pub use Rattle.hp_units.specs.declared.rows.Auto.TheVariants.{Offline as OfflineAuto, Online as OnlineAuto, OnlineKernel as KernelAuto, OnlineMovable as MovableAuto}
pub use Rattle.hp_units.specs.declared.rows.Row.{Row}
pub use Rattle.hp_requests.specs.declared.files.File.{File}
pub use Rattle.hp_requests.specs.declared.files.File.TheVariants.{BlockSizeBytes, Buddyinfo, Probe, AutoOnlineBlocks, OfBlock}
pub use Rattle.hp_requests.specs.declared.files.BlockFile.{BlockFile}
pub use Rattle.hp_requests.specs.declared.files.BlockFile.TheVariants.{State as StateFile, Online as OnlineFile, ValidZones as ZonesFile, Removable as RemovableFile}
pub use Rattle.hp_requests.specs.declared.fault.ControlFault.{ControlFault}
pub use Rattle.hp_requests.specs.declared.fault.ControlFault.TheVariants.{NoFile, ReadOnly, BadText, OutOfMemory, WriteOnly}
