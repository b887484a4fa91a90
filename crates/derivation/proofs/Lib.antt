pub mod Scan
pub mod Held
pub mod Files
pub mod Meant
pub mod Fresh
pub mod Plain
pub mod Judging
pub mod Total
