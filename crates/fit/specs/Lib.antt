-- The definitions of `fit`.
pub mod Fit
pub mod Room
pub mod Differences
pub mod Promised
