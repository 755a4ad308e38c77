mod Rows
mod MarkRows
mod FileRows
mod BracketRows
pub mod Logs
pub mod Hosts
pub mod Acting
pub mod Found
pub mod Opened
pub mod Closing
pub mod MarkLemmas
pub mod Planned
pub mod Agreeing
pub mod Records
pub mod BracketLemmas
pub mod BracketedLogs
pub mod OpenRepairs
pub mod LastFiles
pub mod Behind
pub mod TellLemmas
pub mod ActsTold
pub mod Stopping
pub mod FaultLemmas
pub mod ShortPuts
pub mod WholeRuns
pub mod RunSteps
pub mod RunTold
pub mod AgentLemmas
