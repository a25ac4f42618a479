pub mod Acts
pub mod Worked
