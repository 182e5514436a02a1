pub mod Tasks
pub mod Paths
pub mod Walks
pub mod Pairs
pub mod Told
pub mod Dividers
-- lemmas: nothing to trust
pub mod DividerLaws
