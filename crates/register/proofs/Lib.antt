-- The proofs of the register that belong to no one function, in two parts.
-- Facts of tables and entries as lists: no program stands in them.
pub mod lists
-- What is promised in `specs/Promised.antt`, proved.
pub mod theorems
