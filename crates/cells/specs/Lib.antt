pub mod Images
pub mod Laws
pub mod Sizes
