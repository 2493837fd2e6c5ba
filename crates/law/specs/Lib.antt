-- The definitions of `law`.
pub mod Names
pub mod Cells
pub mod Subranges
pub mod Ranges
pub mod Answers
pub mod Promised
