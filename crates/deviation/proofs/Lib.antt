-- What is proved of the definitions of `deviation`.
pub mod Limits
pub mod Sized
pub mod Rising
pub mod Loss
