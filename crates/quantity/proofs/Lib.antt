-- What is proved of the definitions of `quantity`.
pub mod Refusals
pub mod Outcomes
pub mod Ratios
pub mod Widening
pub mod Division
pub mod Values
