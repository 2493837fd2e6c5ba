-- The proofs about lines.
pub mod Lines
pub mod Capped
pub mod Feeds
pub mod Scan
pub mod Appending
pub mod Unique
