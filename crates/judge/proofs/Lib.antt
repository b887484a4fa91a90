pub mod Environment
pub mod Finding
pub mod Judging
pub mod Matched
pub mod Moving
pub mod Owning
pub mod Standing
pub mod Stating
