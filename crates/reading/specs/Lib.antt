-- The definitions of `reading`.
pub mod Laws
pub mod Reading
pub mod Forward
pub mod Promised
