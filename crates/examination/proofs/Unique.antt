-- No two answers of an import or a withdrawal state the same number, and what an entry reads is one answer.
use Rattle.std.specs.Prelude.{Err, Ok, Result, ⊤}
use mathlib.Core.Path.{◌≡◌, refl, sym, ap}
use mathlib.Core.Bool.{Bool}
use Prim.Native.Nat.{ℕ}
use Rattle.quantity.specs.Outcomes.{Follows}
use Rattle.quantity.proofs.Refusals.{number_unique, not-zero}
use Rattle.quantity.proofs.Outcomes.{one-outcome}
use Rattle.quantity.specs.declared.refusal.Refusal.{Refusal}
use Rattle.law.specs.declared.answer.Reading.{Reading}
use Rattle.law.specs.Answers.{stated as read_as}
use Rattle.law.proofs.Answers.{stated_unique}
use Rattle.reading.proofs.Unique as reading
use Rattle.entry.specs.declared.entry.Entry.{Entry}
use Rattle.examination.specs.Answering.{stated, read_entry}

pub change_unique : (x y : Result ⊤ Refusal) → stated x ≡ stated y → x ≡ y
change_unique (Ok _) (Ok _) e = refl
change_unique (Ok _) (Err why) e = absurd (not-zero why e)
change_unique (Err why) (Ok _) e = absurd (not-zero why (sym e))
change_unique (Err v) (Err w) e = ap Err (number_unique v w e)

pub one_reading : (bad : Bool) (held : Entry) (r r0 : ℕ) (x y : Result Reading Refusal) → Follows (read_entry bad held r r0) (read_as x) → Follows (read_entry bad held r r0) (read_as y) → x ≡ y
one_reading bad held r r0 x y h i =
    stated_unique x y (one-outcome (read_entry bad held r r0) (reading.given_same_step held.certificate r r0) (read_as x) (read_as y) h i)
