-- The definitions about a line's answer.
pub mod Kinds
pub mod Lent
pub mod Readings
pub mod Writing
pub mod Promised
