-- The definitions of `row`: the columns of each kind of list, and what a row of it says.
pub mod Parsing
pub mod Places
pub mod Limits
pub mod Readings
pub mod Forward
pub mod Records
pub mod Resistances
pub mod Tolerances
