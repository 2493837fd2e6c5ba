-- What is proved of the definitions of `fit`.
pub mod Within
pub mod Sizes
pub mod Differences
pub mod Newton
pub mod Missed
pub mod Meets
pub mod Silver
