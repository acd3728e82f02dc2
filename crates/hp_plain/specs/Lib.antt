pub mod Asked
pub mod Image
pub mod Names
pub mod Plans
pub mod Placing
