-- The definitions of `curve`.
pub mod Curve
pub mod Ways
pub mod Tolerance
pub mod Promised
pub mod Places
