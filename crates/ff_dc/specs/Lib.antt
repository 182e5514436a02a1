pub mod Spans
pub mod Fours
pub mod Values
pub mod Joining
pub mod Rules
pub mod Dividing
pub mod Keeping
pub mod Divisions
