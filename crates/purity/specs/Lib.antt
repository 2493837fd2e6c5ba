-- The definitions of `purity`.
pub mod Purity
