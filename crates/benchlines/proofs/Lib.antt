pub mod Driven
pub mod Decimal
