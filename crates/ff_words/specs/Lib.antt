pub mod Arguments
pub mod Numbers
pub mod Parsed
pub mod Rows
pub mod Words
