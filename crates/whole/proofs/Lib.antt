-- What is proved of the definitions of `whole`.
pub mod Any
pub mod Parts
pub mod Ring
pub mod Size
pub mod Rounding
pub mod Rising
pub mod Largest
pub mod Machine
pub mod Choice
