-- How many lines ended, and how they were answered.
use Rattle.std.specs.Prelude.{Bool, not, ◌||◌, List, [], ◌∷◌, ℕ, ◌+◌, ◌^◌, ◌≤◌, ◌<◌, eqb, length}
use Rattle.whole.specs.Choice.{if◌then◌otherwise◌}
use Rattle.quantity.specs.Refusals.{number_of}
use Rattle.quantity.specs.declared.refusal.Refusal.TheVariants.{WrongHeader}
use Rattle.line.specs.Kinds.{is_fault}
use Rattle.list.specs.declared.tally.Tally.{Tally}

-- A line is refused where the number given to it is not 0, and faulty where it is that of a line that is no row, or of a wrong header.
abbrev pub is_refused : ℕ → Bool
is_refused number = not (eqb number 0)

abbrev pub is_faulty : ℕ → Bool
is_faulty number = is_fault number || eqb number (number_of WrongHeader)

abbrev pub one_if : Bool → ℕ
one_if such = if such then 1 otherwise 0

-- How many of these numbers are such.
abbrev pub how_many : (ℕ → Bool) → List ℕ → ℕ
how_many such [] = 0
how_many such (number ∷ numbers) = one_if (such number) + how_many such numbers

-- The tally of lines to which these numbers were given. After a wrong header every line has 0, and counts.
abbrev pub tally_of : List ℕ → Tally
tally_of numbers = record { lines = length numbers; refused = how_many is_refused numbers; faulty = how_many is_faulty numbers }

-- ---- what an inner function answers
-- A tally with one line more.
abbrev pub with_line : Tally → ℕ → Tally
with_line t number = record { lines = t.lines + 1; refused = t.refused + one_if (is_refused number); faulty = t.faulty + one_if (is_faulty number) }

-- One that can be counted on within 64 bits.
pub record Countable (t : Tally) : Type 0 where
  pub lines : t.lines < 2 ^ 63
  pub refused : t.refused ≤ t.lines
  pub faulty : t.faulty ≤ t.lines
