pub mod Holding
pub mod Record
