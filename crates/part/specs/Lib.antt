pub mod View
pub mod Whole
