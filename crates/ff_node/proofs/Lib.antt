pub mod BehaviourLaws
pub mod SendsLaws
pub mod FeedsLaws
pub mod PartsSteps
pub mod HandsOn
pub mod CombViews
