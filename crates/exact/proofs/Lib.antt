-- What is proved of the definitions of `exact`.
pub mod Fractions
pub mod Sizes
pub mod Rise
pub mod Loss
pub mod Loops
pub mod Orders
