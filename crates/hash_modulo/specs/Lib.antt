pub mod Hashes
pub mod Laws
pub mod Paths
pub mod Sets
pub mod Strings
