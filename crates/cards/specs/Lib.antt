-- The definitions of `cards`.
pub mod Cards
