-- The definitions of `text`: bytes, and no thermometry.
pub mod Fields
pub mod Joined
pub mod Numbers
pub mod Columns
pub mod Scanned
pub mod Decimal
pub mod Writing
pub mod Promised
