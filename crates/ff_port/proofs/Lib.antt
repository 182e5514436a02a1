mod Puttings
pub mod Rows
