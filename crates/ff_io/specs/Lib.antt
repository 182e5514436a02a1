pub mod Faults
pub mod Bytes
pub mod Memory
pub mod Short
pub mod Files
pub mod Cabinet
-- lemmas: nothing to trust
pub mod FileLaws
