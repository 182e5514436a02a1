pub mod Outside
pub mod Counts
pub mod Statuses
pub mod Texts
pub mod Messages
pub mod Handling
pub mod GivenLaws
pub mod LongFiles
