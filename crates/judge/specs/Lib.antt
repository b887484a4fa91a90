pub mod Judgeable
pub mod Matching
pub mod Stated
