pub mod Gathering
pub mod Pipelines
pub mod Rounds
pub mod Runs
