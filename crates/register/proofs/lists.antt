-- Facts of tables and entries as lists, each on those above it.
-- Two entries of one thermometer, merged and joined.
pub mod JoinedEntries
-- The entry of a number, and an entry put at a place.
pub mod TableEntries
-- The entries of an accepted list come into a table one after another.
pub mod PlacedEntries
-- What an accepted import and an accepted withdrawal have passed.
pub mod PassedTests
-- Where a number stands, as a search through the places finds it.
pub mod NumberPlace
-- What the tests gather place by place is what their definitions say.
pub mod GatheredTests
-- From what the tests found to the refusal and to the table that is left.
pub mod RefusalFound
