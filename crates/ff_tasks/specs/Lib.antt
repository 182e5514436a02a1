pub mod Faults
pub mod Loops
pub mod Jobs
pub mod Seats
pub mod Serving
pub mod Crews
