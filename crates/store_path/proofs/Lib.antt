pub mod Folds
pub mod Made
pub mod Paths
pub mod Deciding
pub mod Fives
