pub mod Laws
pub mod Linked
pub mod Owners
pub mod Sets
