pub mod Counts
pub mod Starts
pub mod Runs
pub mod Lists
pub mod Refusing
-- lemmas: nothing to trust
pub mod CountLaws
