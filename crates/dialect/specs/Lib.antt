pub mod Facts
pub mod Mr
pub mod Nv
pub mod Sizes
