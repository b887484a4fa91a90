pub mod Buffers
pub mod Counts
pub mod Digesting
pub mod Hexing
pub mod Writing
