-- The definitions of the bench's lists.
pub mod Certificates
pub mod Forward
pub mod Tolerances
pub mod Rooms
pub mod Promised
