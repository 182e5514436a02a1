pub mod Computings
pub mod Entries
