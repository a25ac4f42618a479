pub mod Line
pub mod Message
pub mod Source
