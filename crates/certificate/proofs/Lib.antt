-- What is proved of the definitions of `certificate`.
pub mod Records
pub mod Sound
pub mod Made
pub mod Answers
pub mod AsRatios
pub mod Firsts
pub mod AtFault
pub mod Widening
pub mod Few
