-- The definitions about lines.
pub mod Lines
pub mod Held
pub mod Ends
pub mod Feeds
