pub mod Running
pub mod Finishing
pub mod LimitLaws
pub mod RunLaws
