pub mod Answering
pub mod Finished
pub mod Early
