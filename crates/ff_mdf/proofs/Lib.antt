pub mod Versions
pub mod Orders
pub mod LinkedValues
pub mod Entries
