-- "Numbers given when there is no answer": the number of each row of the table, and the row in short.
use Rattle.std.specs.Prelude.{ℕ}
use Rattle.quantity.specs.declared.refusal.Refusal.{Refusal}
use Rattle.quantity.specs.declared.refusal.Refusal.TheVariants.{ResistanceOutside, RatioAbove, NameUnknown, CellNotMeasured, PurityCellNotMeasured, Impure, BeyondLimit, BelowRange, AboveRange, WrongHeader, BufferShort, LineTooLong, WrongFieldCount, FieldBroken, NumberUnfit, SerialClash, TooFewPlaces, NotLive, TableBad}

abbrev pub number_of : Refusal → ℕ
-- R or R0 outside its limits
number_of ResistanceOutside = 1
-- a ratio above 4.4
number_of RatioAbove = 2
-- law, subrange or class unknown
number_of NameUnknown = 3
-- a cell of the subrange not measured
number_of CellNotMeasured = 4
-- neither Ga nor Hg measured
number_of PurityCellNotMeasured = 5
-- purity not met
number_of Impure = 6
-- deviation or coefficient beyond its limit, an unused place not 0, or W(Al) beyond its deviation limit
number_of BeyondLimit = 7
-- below the range
number_of BelowRange = 8
-- above the range
number_of AboveRange = 9
-- a wrong header
number_of WrongHeader = 10
-- lent buffer shorter than the answer line
number_of BufferShort = 11
-- ---- of a line (request 2)
-- a line longer than its limit
number_of LineTooLong = 12
-- not as many fields as the header
number_of WrongFieldCount = 13
-- a field that breaks its rule: the one refusal that carries a number, that of the field
number_of FieldBroken = 14
-- ---- of the register (request 6)
-- a thermometer 0 or twice in the list
number_of NumberUnfit = 17
-- one serial with two certificates
number_of SerialClash = 18
-- more new thermometers than places left
number_of TooFewPlaces = 19
-- no live certificate, or no such thermometer
number_of NotLive = 20
-- a table holding a thermometer twice or a bad certificate
number_of TableBad = 23
