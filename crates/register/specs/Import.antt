-- An import: a list of entries comes into the table.
use Rattle.std.specs.Prelude.{◌≡◌, Bool, ◌||◌, List, [], ◌∷◌, ℕ, eqb, ltb, Result, ⊤}
use Rattle.std.specs.List.{list_any}
use Rattle.whole.specs.Choice.{if◌then◌otherwise◌}
use Rattle.entry.specs.declared.entry.Entry.{Entry}
use Rattle.examination.specs.declared.testing.Noted.{Noted}
use Rattle.quantity.specs.declared.refusal.Refusal.{Refusal}
use Rattle.entry.specs.Entry.{is_unknown, is_unsound, is_free, clash, joined}
use Rattle.quantity.specs.Outcomes.{Test, number_given, Rule, Follows}
use Rattle.examination.specs.Answering.{stated, import_tests}
use Rattle.register.specs.Table.{entry_of, put, count, twice, bad_table, places}

-- 3: the law of an imported certificate is unknown; 7: an imported certificate is not sound.
abbrev pub unknown : Entry → Bool
unknown e = is_unknown e.certificate

abbrev pub unsound : Entry → Bool
unsound e = is_unsound e.certificate

-- 17: a thermometer is 0 or twice in the list.
abbrev pub unfit : List Entry → Bool
unfit list = list_any is_free list || twice list

-- 18: an entry has the serial that the table has for its thermometer, and another certificate.
abbrev pub clashing : List Entry → Entry → Bool
clashing table e = clash (entry_of table e.number.0) e

-- A new thermometer: the table has nothing of it.
abbrev pub is_new : List Entry → Entry → Bool
is_new table e = is_free (entry_of table e.number.0)

-- 19: there are more new thermometers than places left.
abbrev pub short : List Entry → List Entry → Bool
short table list = ltb (places table) (count (is_new table) list)

-- What the tests of a list find, the table having so many places left: a step of the code, which the promise of an import does not cite.
pub record Tested (table list : List Entry) (left : ℕ) (found : Noted) : Type 0 where
  pub of_unknown : found.unknown ≡ list_any unknown list
  pub of_unsound : found.unsound ≡ list_any unsound list
  pub of_unfit : found.unfit ≡ unfit list
  pub of_clashing : found.clashing ≡ list_any (clashing table) list
  pub of_short : found.short ≡ ltb left (count (is_new table) list)

-- The tests in their order, each over the whole list before the next, and their number, 0 where the import is accepted.
abbrev pub tests_of : List Entry → List Entry → List Test
tests_of table list = import_tests (bad_table table) (list_any unknown list) (list_any unsound list) (unfit list) (list_any (clashing table) list) (short table list)

unfoldable pub import_refusal : List Entry → List Entry → ℕ
import_refusal table list = number_given (tests_of table list)

-- One entry comes in: a new thermometer takes the first free place, the entry of another is merged at its own.
abbrev pub placed : List Entry → Entry → List Entry
placed table e =
    let held = entry_of table e.number.0 in
    put table held.number.0 (joined held e)

-- The entries come in, in list order.
abbrev pub placed_all : List Entry → List Entry → List Entry
placed_all table [] = table
placed_all table (e ∷ es) = placed_all (placed table e) es

-- The table after an import: as it was where the import is refused.
unfoldable pub imported : List Entry → List Entry → List Entry
imported table list = if eqb (import_refusal table list) 0 then placed_all table list otherwise table

-- The rule of an import, whose answer is the table that it leaves: as it was where the import is refused.
abbrev pub import_rule : List Entry → List Entry → Rule (List Entry)
import_rule table list = record { tests = tests_of table list; zeros = table; Answer = λ left. left ≡ placed_all table list }

-- What is promised of an import: its answer, and the table that it leaves.
abbrev pub ImportedAs : List Entry → List Entry → Result ⊤ Refusal → List Entry → Type 0
ImportedAs table list answer left = Follows (import_rule table list) (record { code = stated answer; answer = left })
