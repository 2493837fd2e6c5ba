-- What is proved of the definitions of `entry`.
pub mod Faults
