-- The definitions of `quantity`.
pub mod Quantities
pub mod Refusals
pub mod Outcomes
pub mod Ratios
pub mod Promised
