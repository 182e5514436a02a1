pub mod Finding
pub mod Wording
pub mod FoldLists
pub mod Extremes
pub mod KeyedLists
pub mod KeyedTotals
pub mod RowLaws
pub mod Fitting
pub mod Openings
mod KeyFinds
mod TableLaws
