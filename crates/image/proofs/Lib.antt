pub mod Asked
pub mod Answers
pub mod Chains
pub mod InOrder
pub mod Opened
pub mod Pigeons
pub mod Total
