pub mod Sum
pub mod Table
pub mod Transfer
