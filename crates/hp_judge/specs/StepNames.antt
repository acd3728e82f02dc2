-- Exports again, from one place, types and variants of frames' holders, and of phases and turns of memory
-- blocks. Some variants are renamed, such as `Online` to `PhaseOnline`. Declares nothing.
pub use Rattle.hp_judge.specs.declared.holders.FrameHolder.{FrameHolder}
pub use Rattle.hp_judge.specs.declared.holders.FrameHolder.TheVariants.{Nobody, Kernel, Owner as OwnerPage}
pub use Rattle.hp_judge.specs.declared.phases.Phase.{Phase}
pub use Rattle.hp_judge.specs.declared.phases.Phase.TheVariants.{Offline as PhaseOffline, GoingOnline as PhaseGoingOnline, Online as PhaseOnline, GoingOffline as PhaseGoingOffline}
pub use Rattle.hp_judge.specs.declared.phases.Turn.{Turn}
pub use Rattle.hp_judge.specs.declared.phases.Turn.TheVariants.{Stays, ComesOnline, BeginsOffline, StaysOnline, ThroughOffline}
