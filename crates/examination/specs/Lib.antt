-- The definitions of `examination`.
pub mod Testing
pub mod Answering
