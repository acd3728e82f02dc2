pub mod Blanks
pub mod FrameSets
pub mod FrameViews
mod PageCalls
pub mod PageParts
pub mod Places
pub mod Tables
pub mod Views
mod WordCalls
mod Kernel
mod RowNotes
mod Values
