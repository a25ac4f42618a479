pub mod Numbers
pub mod Table
pub mod Reader
pub mod Letters
pub mod Seen
