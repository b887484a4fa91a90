pub mod Laws
pub mod Reads
pub mod Rewritten
