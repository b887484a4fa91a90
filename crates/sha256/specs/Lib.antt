pub mod Bytes
pub mod Fips
pub mod Hashing
pub mod Taking
pub mod Wide
