pub mod Data
pub mod Inputs
pub mod Reads
