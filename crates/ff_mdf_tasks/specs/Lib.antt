pub mod Tasks
pub mod ByLinks
pub mod Sources
pub mod Queues
pub mod Schedulers
pub mod Occurrences
pub mod SchedulerLaws
