pub mod StoreText
pub mod Programs
pub mod Computing
pub mod MdfLaws
