pub mod Items
pub mod Placed
pub mod Number
pub mod Turned
pub mod Accepting
pub mod Framed
pub mod Filled
