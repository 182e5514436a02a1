pub mod Narrow
pub mod Widest
pub mod Own
pub mod Network
-- lemmas: nothing to trust
pub mod NarrowLaws
pub mod WidestLaws
pub mod OwnLaws
