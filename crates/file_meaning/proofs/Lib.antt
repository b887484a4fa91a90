pub mod Again
pub mod Clean
pub mod Judged
pub mod Lists
pub mod Meanings
pub mod Trees
pub mod Values
