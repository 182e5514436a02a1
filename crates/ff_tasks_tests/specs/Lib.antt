pub mod Broods
pub mod BroodLaws
