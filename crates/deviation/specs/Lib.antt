-- The definitions of `deviation`.
pub mod Limits
pub mod Working
pub mod Exact
pub mod Promised
