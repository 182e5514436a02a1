pub mod Goings
pub mod Readings
pub mod Takings
pub mod Endings
pub mod Gathering
pub mod Flowings
pub mod Writings
