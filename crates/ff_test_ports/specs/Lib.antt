pub mod Fickle
