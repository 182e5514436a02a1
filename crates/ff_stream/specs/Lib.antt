pub mod Streams
pub mod Jobs
pub mod Endings
pub mod Works
pub mod Reads
pub mod Takings
pub mod Texts
pub mod Nodes
pub mod Flows
-- lemmas: nothing to trust
pub mod FlowLaws
