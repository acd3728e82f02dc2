mod HistoryLogs
mod LinesTraced
pub mod LivesTraced
mod NamesKept
mod PlansTraced
mod RowTexts
mod RowsJoined
mod RunsLogged
mod SnapshotsTaken
mod WorkAdded
