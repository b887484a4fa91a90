pub mod Counting
pub mod Inputs
pub mod Numbered
pub mod Pouring
pub mod References
pub mod Views
pub mod Worked
