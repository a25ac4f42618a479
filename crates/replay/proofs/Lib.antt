pub mod Turns
pub mod Ticks
pub mod Playing
