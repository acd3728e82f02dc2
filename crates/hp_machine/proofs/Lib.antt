mod Full
pub mod MachineCalls
pub mod Machines
mod PlanRuns
pub mod Replies
pub mod Volumes
mod ChainEnds
pub mod Replays
mod SameLayouts
