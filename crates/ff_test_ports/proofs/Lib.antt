pub mod FreshQueues
pub mod Nothing
