pub mod Ends
pub mod Rounds
pub mod Sinks
pub mod Steps
