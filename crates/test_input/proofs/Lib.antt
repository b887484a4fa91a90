mod Byte
mod LineByLine
pub mod TurnByTurn
