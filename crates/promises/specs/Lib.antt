pub mod Promises
pub mod Served
pub mod Laws
pub mod Selections
pub mod Carried
