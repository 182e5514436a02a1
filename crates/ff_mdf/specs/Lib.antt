pub mod Values
pub mod Checked
pub mod Stores
pub mod Versions
pub mod Orders
pub mod Linked
pub mod Answers
pub mod Stored
