pub mod Saying
pub mod PlaceTexts
