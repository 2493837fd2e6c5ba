-- What is proved of the definitions of `examination`.
pub mod Readings
pub mod Unique
