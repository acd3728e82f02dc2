mod Answers
mod Drained
mod Given
mod KernelEvents
mod Lifts
mod Claims
mod Migrated
mod OnlineBlocks
pub mod PageEvents
mod Pageblocks
mod Placed
mod Refusals
mod Releases
mod Rooms
mod SingleBlocks
mod Sources
pub mod States
pub mod Steps
mod Taken
mod Unwinding
mod Committed
mod Frees
mod FreeRuns
mod Removed
mod Plans
mod Begun
mod Unclaimed
