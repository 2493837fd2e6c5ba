-- How many bytes hold each answer of the bench's lists: id, law or class and code, with the commas after the first two and CRLF, take 29 at most; then the own
-- columns, each with a comma.
use Rattle.std.specs.Prelude.{ℕ, ◌+◌, ◌*◌}

-- A coefficient has at most 9 digits and a minus, W(Al) 10 digits.
abbrev pub certificate_room : ℕ
certificate_room = 29 + (4 * 11 + 11)

-- A ratio has at most 10 digits.
abbrev pub ratio_room : ℕ
ratio_room = 29 + 11

-- Pass or fail, and an error of at most 8 digits and a minus.
abbrev pub result_room : ℕ
result_room = 29 + (5 + 10)

-- ---- where an answer is made before it goes into the lent buffer
-- The five places of a certificate as numbers of 64 bits, with a comma after each: four of 20 digits and a minus, one of 20.
abbrev pub places_most : ℕ
places_most = 4 * 22 + 21

-- The names of a line, at most 200 bytes; those places; and 11 bytes, more than the code with CRLF takes.
abbrev pub made_in : ℕ
made_in = 320
