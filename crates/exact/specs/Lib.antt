-- The definitions of `exact`.
pub mod Fraction
pub mod Polynomial
