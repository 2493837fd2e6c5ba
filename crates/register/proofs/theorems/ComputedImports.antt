-- Imports of a few entries, which the checker computes.
use mathlib.Core.Path.{◌≡◌, refl}
use mathlib.Core.List.{[], ◌∷◌}
use Prim.Native.Nat.{ℕ}
use lib.IntN.{pos}
use Rattle.law.specs.Names.{spelled}
use Rattle.entry.specs.declared.entry.Entry.{Entry}
use Rattle.certificate.specs.declared.soundness.Given.{Given}
use Rattle.register.specs.Table.{bad_table}
use Rattle.register.specs.Import.{import_refusal, imported}

-- A certificate of the curve, which is good.
abbrev pub by_curve : Given
by_curve = record { law = record { 0 = spelled "curve" }; places = record { a = pos 0; b = pos 0; c = pos 0; d = pos 0; wal = record { 0 = 0 } } }

-- No law has this certificate's name.
abbrev pub by_none : Given
by_none = record { law = record { 0 = spelled "none" }; places = record { a = pos 1; b = pos 2; c = pos 3; d = pos 4; wal = record { 0 = 5 } } }

-- The entry of a thermometer with its first certificate, of which none is withdrawn.
abbrev pub entry_for : ℕ → Entry
entry_for n = record { number = record { 0 = n }; serial = record { 0 = 1 }; mark = record { 0 = 0 }; certificate = by_curve }

abbrev pub five : Entry
five = entry_for 5

abbrev pub eight : Entry
eight = entry_for 8

abbrev pub nine : Entry
nine = entry_for 9

-- A free place, whose rest is not looked at: a bad certificate, and a serial and a mark that are not 0.
abbrev pub spare : Entry
spare = record { number = record { 0 = 0 }; serial = record { 0 = 9 }; mark = record { 0 = 9 }; certificate = by_none }

-- Two new thermometers take the two free places, each the first that is free then, and nothing is left of what those places had besides their number.
pub example : imported (spare ∷ five ∷ spare ∷ []) (nine ∷ eight ∷ []) ≡ nine ∷ five ∷ eight ∷ []
unfolding imported import_refusal bad_table
example = refl

-- They are accepted.
pub example_accepted : import_refusal (spare ∷ five ∷ spare ∷ []) (nine ∷ eight ∷ []) ≡ 0
unfolding import_refusal bad_table
example_accepted = refl

-- With one free place there are more new thermometers than places left.
pub example_refused : import_refusal (five ∷ spare ∷ []) (nine ∷ eight ∷ []) ≡ 19
unfolding import_refusal bad_table
example_refused = refl
