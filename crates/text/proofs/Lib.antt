-- What is proved of text, with what callers lean on.
pub mod Digits
pub mod Fields
pub mod Joined
pub mod Offsets
pub mod Spans
pub mod Numbers
pub mod Decimals
pub mod Round
pub mod Overs
pub mod Rows
pub mod Faults
pub mod Widening
pub mod Names
pub mod Longest
pub mod Adding
