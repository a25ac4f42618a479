pub mod Below
pub mod Step
pub mod Runs
pub mod Half
pub mod Pair
