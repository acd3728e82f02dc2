pub mod Bounds
pub mod Deltas
pub mod FrameChanges
pub mod RowChanges
pub mod Tapes
pub mod WordChanges
