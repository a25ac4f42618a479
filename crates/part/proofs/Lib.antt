pub mod Ready
pub mod Serving
pub mod Heard
pub mod Keeping
pub mod Working
