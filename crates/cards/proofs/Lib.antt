-- What is proved of the definitions of `cards`.
pub mod Tested
