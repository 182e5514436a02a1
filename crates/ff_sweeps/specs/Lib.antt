pub mod Schedules
pub mod Cuts
pub mod Progress
pub mod Swept
pub mod NeverStuck
