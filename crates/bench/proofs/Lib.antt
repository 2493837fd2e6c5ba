-- The proofs about the bench's answers.
pub mod Made
pub mod Rows
pub mod Unique
pub mod Rooms
pub mod Widening
