pub mod Every
pub mod Exactly
pub mod Meant
pub mod One
pub mod Paths
pub mod Rows
pub mod Texts
