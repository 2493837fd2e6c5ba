-- What is proved of the definitions of `law`.
pub mod Names
pub mod Subranges
pub mod Answers
pub mod Unique
