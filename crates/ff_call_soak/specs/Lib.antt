pub mod Soaking
pub mod SoakLaws
