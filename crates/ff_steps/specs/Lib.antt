pub mod Wiring
pub mod Links
pub mod Parties
pub mod Core
pub mod Events
pub mod Moves
pub mod Rejects
pub mod Seen
pub mod NetUnits
pub mod PlanUnits
pub mod PartViews
pub mod OverEdges
pub mod NetCores
-- lemmas: nothing to trust
pub mod PartLaws
pub mod NetUnitLaws
