pub mod Asked
pub mod Questions
pub mod Keys
pub mod Plain
pub mod Judgement
pub mod Total
