-- The definitions of `certificate`.
pub mod Certificate
pub mod Record
pub mod Resistances
pub mod AtFault
pub mod Promised
