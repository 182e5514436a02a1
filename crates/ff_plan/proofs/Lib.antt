pub mod Opens
mod Totals
mod Shares
mod Columns
pub mod MeanPlain
mod LevelsSame
mod MeanSame
mod Filters
mod Keyed
mod Messages
pub mod UnitLists
mod Single
mod EdgeLists
mod Dealing
pub mod Masters
pub mod FormLaws
mod Sets
mod Carries
mod Pipe
mod Copies
pub mod Views
mod Runs
mod Farm
mod LogCounts
mod LogAnswers
mod LevelWeights
mod Withins
mod LogLevels
mod Fronts
pub mod PlainWorkers
mod Wraps
mod WholeWraps
pub mod CutWraps
mod Routes
mod SetFlows
mod A2a
pub mod Lefts
pub mod LaidRows
pub mod LaidUnits
pub mod Standing
pub mod OneAt
pub mod Ports
pub mod Ranges
pub mod WeighedRows
pub mod WeighedIns
pub mod WeighedOuts
pub mod JoinedUnits
pub mod Among
pub mod Apart
pub mod Loopless
mod Grouped
mod Alone
mod GroupLaws
mod ODealing
mod OFarm
pub mod NetLaws
pub mod NodeFacts
mod Counted
pub mod Traffic
mod OrderTraffic
pub mod NetTraffic
mod MasterLogs
mod WrapLogs
