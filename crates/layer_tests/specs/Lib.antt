pub mod SmallLayouts
pub mod SmallLinks
pub mod SmallPages
