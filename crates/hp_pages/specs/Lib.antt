pub mod FrameSets
pub mod Pages
pub mod Places
pub mod Kernel
pub mod Blocks
