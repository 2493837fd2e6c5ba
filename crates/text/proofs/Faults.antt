-- The fault of a line, found from left to right, is the one that its columns say.
use mathlib.Core.Path.{◌≡◌, refl, sym, ap, ◌∙◌}
use mathlib.Core.Bool.{Bool, true, false, true≢false, cond, not}
use mathlib.Core.List.{List, [], ◌∷◌, map}
use Rattle.std.specs.Prelude.{Option, None, Some}
use Rattle.std.specs.Option.{is_none}
use Rattle.std.proofs.lemmas.List.Recursion.{is_count_by}
use Rattle.std.proofs.lemmas.List.Sums.{count_by-le-length}
use native.Mathlib.Omega.{arith}
use Prim.Native.Nat.{ℕ, zero, suc, ◌+◌, ◌-◌, ◌≤◌, ◌<◌}
use Prim.Native.Char.{code}
use lib.Dec.{ltb, eqb}
use lib.ListN.{length, take, drop, get_or, length-drop, drop_of_length-le}
use lib.Seq.{drop-drop, length-take-le}
use borrow.Author.Tests.{le-leb, lt-leb, lt-ltb, ltb-false, eqb-true}
use Rattle.std.specs.List.{list_all}
use Rattle.whole.specs.Choice.{if◌then◌otherwise◌}
use Rattle.whole.proofs.Choice.{and_true}
use Rattle.text.specs.declared.columns.Holds.{Holds}
use Rattle.text.specs.declared.columns.Fault.{Fault}
use Rattle.text.specs.declared.columns.Fault.TheVariants.{TooLong, WrongCount, Broken}
use Rattle.text.specs.Fields.{field, later, fields}
use Rattle.text.specs.Columns.{Column, held, column_at, longest_line, rule, rule_of, first_broken, fault_by, fault_of, well_formed}
use Rattle.text.specs.Scanned.{next_at, commas_in, first_lost, is_narrow}
use Rattle.text.specs.Promised.{FirstToBreak, FirstNamed}
use Rattle.text.proofs.Rows.{Split, only, comma, split, keeps, breaks}

-- one field more than commas
later-long : (s : List ℕ) → length (later s) ≡ commas_in s
later-long = is_count_by (λ s. length (later s)) (λ b. eqb b (code ",")) refl (λ b s. by b s (eqb b (code ",")))
  where
    by : (b : ℕ) (s : List ℕ) (t : Bool) → length (if t then field s ∷ later s otherwise later s) ≡ cond t (1 + length (later s)) (length (later s))
    by b s true = omega arith
    by b s false = refl

-- no more commas than bytes
pub commas_few : (s : List ℕ) → commas_in s ≤ length s
commas_few s = count_by-le-length (λ (b : ℕ). eqb b (code ",")) s

fields-long : (line : List ℕ) → length (fields line) ≡ commas_in line + 1
fields-long line = omega (arith, later-long line)

-- the fields from an offset on, as many as the columns that are left: the first that breaks its rule
found : (line : List ℕ) (n : ℕ) (columns : List Holds) (from : ℕ) → from ≤ length line → length (fields (drop from line)) ≡ length columns
    → first_broken n columns (fields (drop from line)) ≡ first_lost line n columns from
found line n [] from h l = absurd (omega arith)
found line n (what ∷ others) from h l = by (rule_of what (field (drop from line))) refl (split (drop from line)) (found line (n + 1) others)
  where
    last : (others : List Holds) → length others ≡ 0 → (end : ℕ) → first_broken (n + 1) others [] ≡ first_lost line (n + 1) others end
    last [] e end = refl
    last (o ∷ others) e end = absurd (omega arith)

    by : (t : Bool) → rule_of what (field (drop from line)) ≡ t → Split (drop from line)
        → ((next : ℕ) → next ≤ length line → length (fields (drop next line)) ≡ length others
        → first_broken (n + 1) others (fields (drop next line)) ≡ first_lost line (n + 1) others next)
        → (if t then first_broken (n + 1) others (later (drop from line)) otherwise Some (Broken n)) ≡ first_lost line n (what ∷ others) from
    by false e p again = rw (breaks line (rule_of what) from h e, lt-leb (length line + 2) (length line + 1) (omega arith))
    by true e (only alone all) again =
        let end : next_at (rule_of what) line from ≡ length line + 1 = keeps line (rule_of what) from h e ∙ rw (all, length-drop from line) (omega arith) in
        rw (end, le-leb (length line + 1) (length line + 1) (omega arith), alone) (last others (omega (arith, ap length alone)) (length line + 1))
    by true e (comma rest on) again =
        let next = from + (length (field (drop from line)) + 1) in
        let within : next ≤ length line = omega (arith, on, length-drop from line) in
        let are : later (drop from line) ≡ fields (drop next line) = rest ∙ ap fields (drop-drop (length (field (drop from line)) + 1) from line) in
        rw (keeps line (rule_of what) from h e, le-leb next (length line + 1) (omega arith), are) (again next within (omega (arith, ap length are)))

-- no field is lost past the columns
pub lost_nowhere : (line : List ℕ) (columns : List Holds) (count from : ℕ) → count ≤ length columns → first_lost line (count + 1) (drop count (take count columns)) from ≡ None
lost_nowhere line columns count from k = rw (drop_of_length-le (take count columns) {i = count} (omega (arith, length-take-le count columns k)))

-- the columns' numbers are narrow, each
pub narrow_at : (columns : List Holds) (n : ℕ) (other : Holds) → list_all is_narrow columns ≡ true → n < length columns → is_narrow (get_or columns n other) ≡ true
narrow_at [] n other e h = absurd (omega arith)
narrow_at (what ∷ columns) zero other e h = (and_true (is_narrow what) (list_all is_narrow columns) e).0
narrow_at (what ∷ columns) (suc n) other e h = narrow_at columns n other (and_true (is_narrow what) (list_all is_narrow columns) e).1 (omega arith)

-- ---- the fault, by its three tests
module _ (columns : List Holds) (line : List ℕ) where
  pub is-long : ltb longest_line (length line) ≡ true → fault_by columns line ≡ Some TooLong
  unfolding fault_by
  is-long e = rw e

  module _ (short : ltb longest_line (length line) ≡ false) where
    pub is-miscounted : not (eqb (commas_in line + 1) (length columns)) ≡ true → fault_by columns line ≡ Some WrongCount
    unfolding fault_by
    is-miscounted e = rw (short, fields-long line, e)

    pub is_found : not (eqb (commas_in line + 1) (length columns)) ≡ false
        → fault_by columns line ≡ first_lost line 1 columns 0
    unfolding fault_by
    is_found e = rw (short, fields-long line, e) (found line 1 columns 0 (omega arith) (fields-long line ∙ counted (eqb (commas_in line + 1) (length columns)) refl e))
      where
        counted : (t : Bool) → eqb (commas_in line + 1) (length columns) ≡ t → not t ≡ false → commas_in line + 1 ≡ length columns
        counted true c e = eqb-true (commas_in line + 1) (length columns) c
        counted false c e = absurd (true≢false e)

-- a line that is too long
pub long-fault : (cs : List Column) (line : List ℕ) → longest_line < length line → fault_of cs line ≡ Some TooLong
unfolding fault_of
long-fault cs line h = is-long (map held cs) line (lt-ltb longest_line (length line) h)

-- a row has no fault
pub no_fault : (cs : List Column) (line : List ℕ) → well_formed cs line ≡ true → fault_of cs line ≡ None
unfolding well_formed
no_fault cs line w = by (fault_of cs line) w
  where
    by : (found : Option Fault) → is_none found ≡ true → found ≡ None
    by None e = refl
    by (Some fault) e = absurd (true≢false (sym e))

pub some_fault : (cs : List Column) (line : List ℕ) (fault : Fault) → fault_of cs line ≡ Some fault → well_formed cs line ≡ false
unfolding well_formed
some_fault cs line fault e = ap is_none e

pub a-row : (cs : List Column) (line : List ℕ) → fault_of cs line ≡ None → well_formed cs line ≡ true
unfolding well_formed
a-row cs line e = ap is_none e

-- ---- the field that is named, so many places after the first of these
record NamedAt (n m : ℕ) (cs : List Column) (fs : List (List ℕ)) : Type 0 where
  place : ℕ
  number : m ≡ n + place
  within : place < length cs
  breaks : rule (column_at place cs) (get_or fs place []) ≡ false
  before : (j : ℕ) → j < place → rule (column_at j cs) (get_or fs j []) ≡ true

named_at : (n m : ℕ) (cs : List Column) (fs : List (List ℕ)) → first_broken n (map held cs) fs ≡ Some (Broken m) → NamedAt n m cs fs
named_at n m [] fs e = cc e
named_at n m (c ∷ cs) [] e = cc e
named_at n m (c ∷ cs) (f ∷ fs) e = by (rule c f) refl e (named_at (n + 1) m cs fs)
  where
    by : (t : Bool) → rule c f ≡ t → (if t then first_broken (n + 1) (map held cs) fs otherwise Some (Broken n)) ≡ Some (Broken m)
        → (first_broken (n + 1) (map held cs) fs ≡ Some (Broken m) → NamedAt (n + 1) m cs fs) → NamedAt n m (c ∷ cs) (f ∷ fs)
    by false r e again =
        let is : n ≡ m = cc e in
        record { place = 0; number = omega (arith, is); within = omega arith; breaks = r; before = λ j h. absurd (omega arith) }
    by true r e again =
        let later = again e in
        record { place = suc later.place; number = omega (arith, later.number); within = omega (arith, later.within); breaks = later.breaks; before = earlier later }
      where
        earlier : (later : NamedAt (n + 1) m cs fs) (j : ℕ) → j < suc later.place → rule (column_at j (c ∷ cs)) (get_or (f ∷ fs) j []) ≡ true
        earlier later zero h = r
        earlier later (suc j) h = later.before j (omega arith)

pub map-long : (cs : List Column) → length (map held cs) ≡ length cs
map-long [] = refl
map-long (c ∷ cs) = ap suc (map-long cs)

pub first-named : FirstNamed
unfolding fault_of fault_by
first-named cs line m e = by (ltb longest_line (length line)) (eqb (length (fields line)) (length (map held cs))) refl refl e
  where
    is : length line ≤ longest_line → length (fields line) ≡ length cs → NamedAt 1 m cs (fields line) → FirstToBreak cs line m
    is short counted at =
        let place : m - 1 ≡ at.place = omega (arith, at.number) in
        record {
          short = short;
          counted = counted;
          from_one = omega (arith, at.number);
          to_last = omega (arith, at.number, at.within);
          breaks = rw place at.breaks;
          before = λ j h. at.before j (omega (arith, h, place));
        }

    by : (t u : Bool) → ltb longest_line (length line) ≡ t → eqb (length (fields line)) (length (map held cs)) ≡ u
        → (if t then Some TooLong otherwise if not u then Some WrongCount otherwise first_broken 1 (map held cs) (fields line)) ≡ Some (Broken m) → FirstToBreak cs line m
    by true u l c e = cc e
    by false false l c e = cc e
    by false true l c e = is (ltb-false longest_line (length line) l) (eqb-true (length (fields line)) (length (map held cs)) c ∙ map-long cs) (named_at 1 m cs (fields line) e)
