-- The definitions of `register`.
pub mod Table
pub mod Import
pub mod Withdrawal
pub mod Reading
pub mod Promised
