-- The definitions about a list.
pub mod Kinds
pub mod Lists
pub mod Tallies
pub mod Feeding
pub mod Replies
pub mod Promised
