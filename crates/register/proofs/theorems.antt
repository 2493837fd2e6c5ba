-- The theorems of `specs/Promised.antt`, each on those above it.
-- What an import leaves: what was held joined with what came in.
pub mod ImportedTable
-- Import twice equals import once.
pub mod ImportTwice
-- Two imports in either order leave the same entries.
pub mod ImportOrders
-- What a withdrawal leaves: one mark raised.
pub mod WithdrawnTable
-- A refusal changes nothing, and a table that is not bad does not become so.
pub mod StaysGood
-- A mark never falls, and a serial never falls.
pub mod NeverFalls
-- A table keeps its places, and a thermometer stays at its own.
pub mod PlacesKept
-- An answered reading is what a live and good certificate reads.
pub mod ReadingThrough
-- What is withdrawn stays withdrawn.
pub mod StaysWithdrawn
-- A certificate and its serial came together.
pub mod CameTogether
-- A newer certificate takes the old one's place.
pub mod NewerServes
-- Each call gives the number and leaves the table that these theorems speak of.
pub mod Leaves
-- Each call's promise allows one outcome.
pub mod OneOutcome
-- Imports of a few entries, computed.
pub mod ComputedImports
