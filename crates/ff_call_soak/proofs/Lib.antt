pub mod Soakings
