-- The definitions of `whole`.
pub mod Choice
pub mod Floor
pub mod Largest
pub mod Text
