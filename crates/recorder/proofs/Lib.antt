pub mod Firsts
pub mod Records
