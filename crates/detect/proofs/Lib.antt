pub mod Short
pub mod Message
