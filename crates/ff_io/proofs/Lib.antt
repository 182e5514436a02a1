pub mod Fronts
pub mod Portions
pub mod Cabinets
pub mod Limits
