pub mod Strange
pub mod Unlawful
