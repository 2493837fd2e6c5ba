-- The proofs about a list.
pub mod Same
pub mod Nothing
pub mod OfKinds
pub mod Headers
pub mod Capped
pub mod Dues
pub mod Unique
pub mod Whole
pub mod Feeds
pub mod Values
