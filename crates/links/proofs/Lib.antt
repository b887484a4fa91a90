pub mod Files
pub mod Names
pub mod Ownership
pub mod Turns
