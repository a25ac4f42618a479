pub mod Lines
pub mod Room
