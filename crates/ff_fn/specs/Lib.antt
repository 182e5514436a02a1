pub mod Rules
pub mod Keeping
pub mod Laws
