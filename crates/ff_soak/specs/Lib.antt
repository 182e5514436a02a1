pub mod Records
pub mod Networks
pub mod Summaries
pub mod Outside
pub mod Printing
pub mod Faults
