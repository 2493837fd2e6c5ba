-- What is proved of the definitions of `reading`.
pub mod Ends
pub mod Answered
pub mod ByCurve
pub mod Demand
pub mod Unique
pub mod Tests
pub mod LeastRatio
pub mod Whole
pub mod Widening
pub mod Values
