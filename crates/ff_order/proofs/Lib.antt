pub mod OrderFronts
pub mod ODealRests
pub mod OMergeRests
