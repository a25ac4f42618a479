pub mod Halves
pub mod Array
