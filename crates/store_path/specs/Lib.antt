pub mod Base32
pub mod Names
