-- Columns that take more: of a line only a broken field moves, and a row says what it said.
use mathlib.Core.Path.{◌≡◌, refl, sym, ap₂}
use mathlib.Core.Bool.{Bool, true, false, ◌&&◌, not}
use mathlib.Core.List.{List, [], ◌∷◌, map}
use Rattle.std.specs.Prelude.{Some}
use Prim.Native.Nat.{ℕ, ◌+◌, ◌≤◌}
use native.Mathlib.Omega.{arith}
use lib.Dec.{leb, ltb, eqb}
use lib.ListN.{length}
use borrow.Author.Tests.{leb-true, le-leb}
use Rattle.std.specs.List.{list_all}
use Rattle.whole.specs.Choice.{if◌then◌otherwise◌}
use Rattle.whole.proofs.Choice.{and_true}
use Rattle.text.specs.declared.columns.Holds.{Holds}
use Rattle.text.specs.declared.columns.Holds.TheVariants.{Natural}
use Rattle.text.specs.declared.columns.Fault.TheVariants.{TooLong, WrongCount, Broken}
use Rattle.text.specs.Fields.{fields, sized, digit}
use Rattle.text.specs.Numbers.{leading_zero}
use Rattle.text.specs.Columns.{Column, held, rule_of, said_as, said_by, values, Value, longest_line, first_broken, fault_by, fault_of}

-- what kept its rule keeps it, and says the same
pub record Eased (before after : Holds) : Type 0 where
  pub keeps : (s : List ℕ) → rule_of before s ≡ true → rule_of after s ≡ true
  pub says : (s : List ℕ) → said_as before s ≡ said_as after s

pub as_it_was : (what : Holds) → Eased what what
as_it_was what = record { keeps = λ s e. e; says = λ s. refl }

pub more_digits : (few many : ℕ) → few ≤ many → Eased (Natural few) (Natural many)
more_digits few many h = record { keeps = keeps; says = λ s. refl }
  where
    keeps : (s : List ℕ) → rule_of (Natural few) s ≡ true → rule_of (Natural many) s ≡ true
    keeps s e =
        let number = and_true (sized 1 few s && list_all digit s) (not (leading_zero s)) e in
        let digits = and_true (sized 1 few s) (list_all digit s) number.0 in
        let long = and_true (leb 1 (length s)) (leb (length s) few) digits.0 in
        rw (long.0, le-leb (length s) many (omega (arith, leb-true (length s) few long.1, h)), digits.1) number.1

-- so with each column
pub data AllEased : List Column → List Column → Type 0 where
  none_left : AllEased [] []
  eased : {c d : Column} {cs ds : List Column} → Eased (held c) (held d) → AllEased cs ds → AllEased (c ∷ cs) (d ∷ ds)

as_many : (cs ds : List Column) → AllEased cs ds → length (map held cs) ≡ length (map held ds)
as_many [] [] none_left = refl
as_many [] (d ∷ ds) x = elim x [ ]
as_many (c ∷ cs) [] x = elim x [ ]
as_many (c ∷ cs) (d ∷ ds) (eased one others) = omega (arith, as_many cs ds others)

-- ---- the fault of a line, unless a field breaks its rule
fields_stay : (n : ℕ) (cs ds : List Column) (fs : List (List ℕ)) → AllEased cs ds → ((k : ℕ) → first_broken n (map held cs) fs ≡ Some (Broken k) → ⊥) → first_broken n (map held ds) fs ≡ first_broken n (map held cs) fs
fields_stay n [] [] fs none_left kept = refl
fields_stay n [] (d ∷ ds) fs x kept = elim x [ ]
fields_stay n (c ∷ cs) [] fs x kept = elim x [ ]
fields_stay n (c ∷ cs) (d ∷ ds) [] (eased one others) kept = refl
fields_stay n (c ∷ cs) (d ∷ ds) (f ∷ fs) (eased one others) kept = by (rule_of (held c) f) refl (fields_stay (n + 1) cs ds fs others) kept
  where
    by : (t : Bool) → rule_of (held c) f ≡ t
        → (((k : ℕ) → first_broken (n + 1) (map held cs) fs ≡ Some (Broken k) → ⊥) → first_broken (n + 1) (map held ds) fs ≡ first_broken (n + 1) (map held cs) fs)
        → ((k : ℕ) → (if t then first_broken (n + 1) (map held cs) fs otherwise Some (Broken n)) ≡ Some (Broken k) → ⊥)
        → (if rule_of (held d) f then first_broken (n + 1) (map held ds) fs otherwise Some (Broken n)) ≡ (if t then first_broken (n + 1) (map held cs) fs otherwise Some (Broken n))
    by true e again kept = rw (one.keeps f e) (again kept)
    by false e again kept = absurd (kept n refl)

pub fault-stays : (cs ds : List Column) → AllEased cs ds → (line : List ℕ) → ((k : ℕ) → fault_of cs line ≡ Some (Broken k) → ⊥) → fault_of ds line ≡ fault_of cs line
unfolding fault_of fault_by
fault-stays cs ds all line = by (ltb longest_line (length line)) (eqb (length (fields line)) (length (map held cs))) refl
  where
    by : (long counted : Bool) → eqb (length (fields line)) (length (map held cs)) ≡ counted
        → ((k : ℕ) → (if long then Some TooLong otherwise if not counted then Some WrongCount otherwise first_broken 1 (map held cs) (fields line)) ≡ Some (Broken k) → ⊥)
        → (if long then Some TooLong otherwise if not (eqb (length (fields line)) (length (map held ds))) then Some WrongCount otherwise first_broken 1 (map held ds) (fields line))
        ≡ (if long then Some TooLong otherwise if not counted then Some WrongCount otherwise first_broken 1 (map held cs) (fields line))
    by true counted e kept = refl
    by false false e kept = rw (sym (as_many cs ds all), e) refl
    by false true e kept = rw (sym (as_many cs ds all), e) (fields_stay 1 cs ds (fields line) all kept)

-- ---- what a row says
fields_say : (cs ds : List Column) → AllEased cs ds → (fs : List (List ℕ)) → said_by cs fs ≡ said_by ds fs
fields_say [] [] none_left fs = refl
fields_say [] (d ∷ ds) x fs = elim x [ ]
fields_say (c ∷ cs) [] x fs = elim x [ ]
fields_say (c ∷ cs) (d ∷ ds) (eased one others) [] = refl
fields_say (c ∷ cs) (d ∷ ds) (eased one others) (f ∷ fs) = ap₂ {C = List Value} ◌∷◌ (one.says f) (fields_say cs ds others fs)

pub row_says : (cs ds : List Column) → AllEased cs ds → (line : List ℕ) → values cs line ≡ values ds line
unfolding values
row_says cs ds all line = fields_say cs ds all (fields line)
