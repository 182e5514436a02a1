pub mod Channels
pub mod Ends
pub mod Kept
pub mod Noted
pub mod Owned
pub mod Queues
-- lemmas: nothing to trust
pub mod PastLaws
