pub mod Lines
pub mod Turns
