pub mod Buffer
pub mod Counter
pub mod Digest
pub mod Numerals
pub mod Write
