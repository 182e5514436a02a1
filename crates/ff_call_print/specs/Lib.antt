pub mod Printing
pub mod PrintLaws
