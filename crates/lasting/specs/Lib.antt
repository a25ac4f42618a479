pub mod Whole
pub mod Array
