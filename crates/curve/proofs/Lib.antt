-- What is proved of the definitions of `curve`.
pub mod Standard
pub mod Sides
pub mod Rising
pub mod Places
pub mod Ends
pub mod Outcomes
pub mod Back
pub mod Bracketed
pub mod Unique
pub mod Widening
