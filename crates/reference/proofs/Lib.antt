-- What is proved of the definitions of `reference`.
pub mod Steps
pub mod Rising
pub mod Close
pub mod Values
pub mod Unique
