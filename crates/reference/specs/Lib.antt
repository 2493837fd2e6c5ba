-- The definitions of `reference`.
pub mod Reference
pub mod Promised
pub mod Inverse
