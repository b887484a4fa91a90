pub mod Verdicts
pub mod Judged
pub mod Laws
