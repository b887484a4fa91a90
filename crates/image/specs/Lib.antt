pub mod Chain
pub mod Files
pub mod InOrder
pub mod Layout
pub mod Opening
