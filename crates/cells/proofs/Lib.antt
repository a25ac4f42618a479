pub mod Front
pub mod Pages
pub mod Powers
