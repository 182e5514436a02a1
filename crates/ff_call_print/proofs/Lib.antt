pub mod Printings
