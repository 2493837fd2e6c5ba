-- What is proved of rows.
pub mod Read
pub mod Pairs
pub mod Unique
