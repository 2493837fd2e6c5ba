-- The proofs about a line's answer.
pub mod Buffers
pub mod Answers
pub mod Unique
pub mod Short
pub mod ReadRows
pub mod Widening
