-- The definitions of `entry`.
pub mod Entry
