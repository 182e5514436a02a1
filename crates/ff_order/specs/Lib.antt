pub mod OMerges
-- lemmas: nothing to trust
pub mod GroupLaws
pub mod PortLaws
pub mod MergedLaws
pub mod OMergeTiedLaws
pub mod PickLaws
pub mod OMergeLeftLaws
pub mod OMergePicksLaws
pub mod OMergeBegunLaws
pub mod OMergeLiveLaws
pub mod OMergeTakesLaws
pub mod OMergeKeptLaws
pub mod OMergeStartLaws
pub mod OMergeRunLaws
pub mod OMergeFitsLaws
pub mod OMergeShortLaws
pub mod OMergeLaws
