-- A line read field by field: whether it is a row of its columns, and what it then says.
use mathlib.Core.Path.{◌≡◌, refl, sym, ap, ◌∙◌}
use mathlib.Core.Bool.{Bool, true, false, false≢true, ◌&&◌, not}
use mathlib.Core.List.{List, [], ◌∷◌, map}
use Rattle.std.specs.Prelude.{Option, Some}
use Rattle.std.specs.Option.{is_none}
use native.Mathlib.Omega.{arith}
use Prim.Native.Nat.{ℕ, suc, ◌+◌, ◌≤◌, ◌<◌}
use Prim.Native.Char.{code}
use Prim.Native.String.{String}
use lib.IntN.{ℤ}
use lib.Dec.{leb, eqb}
use lib.ListN.{length, drop, length-drop}
use lib.Seq.{drop-drop}
use borrow.Author.Tests.{le-leb, lt-leb, lt-ltb, le-ltb, leb-true, leb-false, eq-eqb, ne_eqb, eqb-true}
use Rattle.whole.specs.Choice.{if◌then◌otherwise◌}
use Rattle.whole.specs.Text.{name_of}
use Rattle.whole.proofs.Choice.{and_true}
use Rattle.text.specs.declared.field.Scanned.{Scanned}
use Rattle.text.specs.Fields.{field, later, fields}
use Rattle.text.specs.Numbers.{is_number, value_of}
use Rattle.text.specs.declared.columns.Holds.{Holds}
use Rattle.text.specs.declared.columns.Holds.TheVariants as holds
use Rattle.text.specs.declared.columns.Fault.{Fault}
use Rattle.text.specs.declared.columns.Fault.TheVariants.{WrongCount, Broken}
use Rattle.text.specs.Columns as columns
use Rattle.text.specs.Columns.{Column, ◌holds◌, held, is_id, is_name, is_letter, longest_line, rule, rule_of, first_broken, fault_by, fault_of, well_formed, Value, first_byte, said_by, values}
use Rattle.text.specs.Scanned.{nowhere, next_of, next_at, scanned_at, signed_at}

-- ---- one field for each column, which keeps its rule
abbrev pub keep : List Column → List (List ℕ) → Bool
keep [] [] = true
keep [] (f ∷ fs) = false
keep (c ∷ cs) [] = false
keep (c ∷ cs) (f ∷ fs) = rule c f && keep cs fs

eqb_suc : (m n : ℕ) → eqb (suc m) (suc n) ≡ eqb m n
eqb_suc m n = by (eqb m n) refl
  where
    by : (t : Bool) → eqb m n ≡ t → eqb (suc m) (suc n) ≡ t
    by true e = eq-eqb (suc m) (suc n) (ap suc (eqb-true m n e))
    by false e = ne_eqb (suc m) (suc n) (λ k. false≢true (sym e ∙ eq-eqb m n (omega arith)))

-- whatever the number that the first of them has
pub kept_none : (n : ℕ) (cs : List Column) (fs : List (List ℕ)) → keep cs fs ≡ (if not (eqb (length fs) (length (map held cs))) then false otherwise is_none (first_broken n (map held cs) fs))
kept_none n [] [] = refl
kept_none n [] (f ∷ fs) = rw (ne_eqb (suc (length fs)) 0 (λ e. omega arith))
kept_none n (c ∷ cs) [] = rw (ne_eqb 0 (suc (length (map held cs))) (λ e. omega arith))
kept_none n (c ∷ cs) (f ∷ fs) = rw (eqb_suc (length fs) (length (map held cs))) (by (rule c f) (eqb (length fs) (length (map held cs))) (kept_none (n + 1) cs fs))
  where
    by : (t u : Bool) → keep cs fs ≡ (if not u then false otherwise is_none (first_broken (n + 1) (map held cs) fs))
        → (t && keep cs fs) ≡ (if not u then false otherwise is_none (if t then first_broken (n + 1) (map held cs) fs otherwise Some (Broken n)))
    by true u e = e
    by false true e = refl
    by false false e = refl

is-none : (t : Bool) (this : Fault) (that : Option Fault) → is_none (if t then Some this otherwise that) ≡ (if t then false otherwise is_none that)
is-none true this that = refl
is-none false this that = refl

-- a line is a row where it is short enough and each field keeps its rule
pub row_is : (cs : List Column) (line : List ℕ) → length line ≤ longest_line → well_formed cs line ≡ keep cs (fields line)
unfolding well_formed fault_of fault_by
row_is cs line h =
    rw (le-ltb longest_line (length line) h, is-none (not (eqb (length (fields line)) (length (map held cs)))) WrongCount (first_broken 1 (map held cs) (fields line)))
    (sym (kept_none 1 cs (fields line)))

pub too_long : (cs : List Column) (line : List ℕ) → longest_line < length line → well_formed cs line ≡ false
unfolding well_formed fault_of fault_by
too_long cs line h = rw (lt-ltb longest_line (length line) h)

-- so a row is short and its fields keep their rules
pub record IsRow (cs : List Column) (line : List ℕ) : Type 0 where
  pub short : length line ≤ longest_line
  pub kept : keep cs (fields line) ≡ true

pub is_row : (cs : List Column) (line : List ℕ) → well_formed cs line ≡ true → IsRow cs line
is_row cs line w = by (leb (length line) longest_line) refl
  where
    by : (t : Bool) → leb (length line) longest_line ≡ t → IsRow cs line
    by true e = let h = leb-true (length line) longest_line e in record { short = h; kept = sym (row_is cs line h) ∙ w }
    by false e = absurd (false≢true (sym (too_long cs line (leb-false (length line) longest_line e)) ∙ w))

-- ---- the first field and the others
-- A line's first field is all of it, or a comma follows and the other fields are those of what stands after it.
pub data Split (s : List ℕ) : Type 0 where
  only : later s ≡ [] → length (field s) ≡ length s → Split s
  comma : later s ≡ fields (drop (length (field s) + 1) s) → length (field s) + 1 ≤ length s → Split s

drop_past : (b : ℕ) (s : List ℕ) (n : ℕ) → drop (n + 1) s ≡ drop (suc n + 1) (b ∷ s)
drop_past b s n = ap (λ (k : ℕ). drop k (b ∷ s)) (let e : suc (n + 1) ≡ suc n + 1 = omega arith in e)

pub split : (s : List ℕ) → Split s
split [] = only refl refl
split (b ∷ s) = by (eqb b (code ",")) refl (split s)
  where
    by : (t : Bool) → eqb b (code ",") ≡ t → Split s → Split (b ∷ s)
    by true e p = comma (rw e) (rw e (omega arith))
    by false e (only l n) = only (rw (e, l)) (rw e (ap suc n))
    by false e (comma l n) = comma (rw e (l ∙ ap fields (drop_past b s (length (field s))))) (rw e (omega arith))

module _ (line : List ℕ) where
  -- the first field starts where the line does
  pub from_start : (rule : List ℕ → Bool) → next_of rule line ≡ next_at rule line 0
  from_start rule = rw (le-leb 0 (length line) (omega arith)) (omega arith)

  -- ---- where a scan by the columns ends
  past-line : (rule : List ℕ → Bool) (from : ℕ) → length line < from → next_at rule line from ≡ nowhere (length line)
  past-line rule from h = rw (lt-leb from (length line) h)

  pub breaks : (rule : List ℕ → Bool) (from : ℕ) → from ≤ length line → rule (field (drop from line)) ≡ false → next_at rule line from ≡ nowhere (length line)
  breaks rule from h e = rw (le-leb from (length line) h, e) (rw (length-drop from line) (omega arith))

  pub keeps : (rule : List ℕ → Bool) (from : ℕ) → from ≤ length line → rule (field (drop from line)) ≡ true → next_at rule line from ≡ from + (length (field (drop from line)) + 1)
  keeps rule from h e = rw (le-leb from (length line) h, e)

  end_of : List Column → ℕ → ℕ
  end_of [] from = from
  end_of (c ∷ cs) from = end_of cs (next_at (rule c) line from)

  lost : (cs : List Column) → eqb (end_of cs (nowhere (length line))) (length line + 1) ≡ false
  unfolding end_of
  lost [] = ne_eqb (nowhere (length line)) (length line + 1) (λ e. omega arith)
  lost (c ∷ cs) = rw (past-line (rule c) (nowhere (length line)) (omega arith)) (lost cs)

  none_left : (cs : List Column) → keep cs [] ≡ eqb (end_of cs (length line + 1)) (length line + 1)
  unfolding end_of
  none_left [] = sym (eq-eqb (length line + 1) (length line + 1) refl)
  none_left (c ∷ cs) = rw (past-line (rule c) (length line + 1) (omega arith)) (sym (lost cs))

  kept-ends : (cs : List Column) (from : ℕ) → from ≤ length line → keep cs (fields (drop from line)) ≡ eqb (end_of cs from) (length line + 1)
  unfolding end_of
  kept-ends [] from h = sym (ne_eqb from (length line + 1) (λ e. omega arith))
  kept-ends (c ∷ cs) from h = by (rule c (field (drop from line))) refl (split (drop from line)) (kept-ends cs)
    where
      by : (t : Bool) → rule c (field (drop from line)) ≡ t → Split (drop from line)
          → ((next : ℕ) → next ≤ length line → keep cs (fields (drop next line)) ≡ eqb (end_of cs next) (length line + 1))
          → (t && keep cs (later (drop from line))) ≡ eqb (end_of cs (next_at (rule c) line from)) (length line + 1)
      by false e p again = rw (breaks (rule c) from h e) (sym (lost cs))
      by true e (only l n) again =
          let end : next_at (rule c) line from ≡ length line + 1 = keeps (rule c) from h e ∙ rw (n, length-drop from line) (omega arith) in
          rw (l, end) (none_left cs)
      by true e (comma l n) again =
          let next = from + (length (field (drop from line)) + 1) in
          let i : next ≤ length line = omega (arith, n, length-drop from line) in
          rw (l, drop-drop (length (field (drop from line)) + 1) from line, keeps (rule c) from h e) (again next i)

  -- ---- what a scan by the columns says
  said_at : Holds → ℕ → Value
  said_at holds.Id from = columns.word (field (drop from line))
  said_at holds.Name from = columns.named (scanned_at is_name name_of line from).value
  said_at holds.Letter from = columns.byte (scanned_at is_letter first_byte line from).value
  said_at (holds.Natural most) from = columns.count (scanned_at (is_number most) value_of line from).value
  said_at (holds.Signed most) from = columns.integer (signed_at most line from).value

  said_from : List Column → ℕ → List Value
  said_from [] from = []
  said_from ((title holds what) ∷ cs) from = said_at what from ∷ said_from cs (next_at (rule_of what) line from)

  said-is : (what : Holds) (from : ℕ) → from ≤ length line → rule_of what (field (drop from line)) ≡ true → said_at what from ≡ columns.said_as what (field (drop from line))
  unfolding said_at
  said-is holds.Id from h k = refl
  said-is holds.Name from h k = rw (le-leb from (length line) h, k)
  said-is holds.Letter from h k = rw (le-leb from (length line) h, k)
  said-is (holds.Natural most) from h k = rw (le-leb from (length line) h, k)
  said-is (holds.Signed most) from h k = rw (le-leb from (length line) h, k)

  kept-says : (cs : List Column) (from : ℕ) → from ≤ length line → keep cs (fields (drop from line)) ≡ true → said_from cs from ≡ said_by cs (fields (drop from line))
  unfolding said_from
  kept-says [] from h k = refl
  kept-says ((title holds what) ∷ cs) from h k =
      let both = and_true (rule_of what (field (drop from line))) (keep cs (later (drop from line))) k in
      by cs (split (drop from line)) (keeps (rule_of what) from h both.0) both.1 (said-is what from h both.0) (kept-says cs)
    where
      by : (cs : List Column) → Split (drop from line) → next_at (rule_of what) line from ≡ from + (length (field (drop from line)) + 1) → keep cs (later (drop from line)) ≡ true
          → said_at what from ≡ columns.said_as what (field (drop from line))
          → ((next : ℕ) → next ≤ length line → keep cs (fields (drop next line)) ≡ true → said_from cs next ≡ said_by cs (fields (drop next line)))
          → (said_at what from ∷ said_from cs (next_at (rule_of what) line from)) ≡ (columns.said_as what (field (drop from line)) ∷ said_by cs (later (drop from line)))
      by [] (only l n) next k e again = rw e
      by [] (comma l n) next k e again = rw e
      by (c ∷ cs) (only l n) next k e again = absurd (false≢true (ap (keep (c ∷ cs)) (sym l) ∙ k))
      by (c ∷ cs) (comma l n) next k e again =
          let on = from + (length (field (drop from line)) + 1) in
          let i : on ≤ length line = omega (arith, n, length-drop from line) in
          let rest : later (drop from line) ≡ fields (drop on line) = l ∙ ap fields (drop-drop (length (field (drop from line)) + 1) from line) in
          rw (e, next, rest) (ap (λ (vs : List Value). columns.said_as what (field (drop from line)) ∷ vs) (again on i (ap (keep (c ∷ cs)) (sym rest) ∙ k)))

  -- ---- the scan as the code makes it, each step from where the one before it ended
  pub data Scan : List Column → ℕ → ℕ → List Value → Type 0 where
    done : {from : ℕ} → Scan [] from from []
    an-id : {title : String} {cs : List Column} {from end : ℕ} {vs : List Value} (next : ℕ) → next ≡ next_at is_id line from → Scan cs next end vs
        → Scan ((title holds holds.Id) ∷ cs) from end (columns.word (field (drop from line)) ∷ vs)
    a-name : {title : String} {cs : List Column} {from end : ℕ} {vs : List Value} (x : Scanned ℕ) → x ≡ scanned_at is_name name_of line from → Scan cs x.next end vs
        → Scan ((title holds holds.Name) ∷ cs) from end (columns.named x.value ∷ vs)
    a-letter : {title : String} {cs : List Column} {from end : ℕ} {vs : List Value} (x : Scanned ℕ) → x ≡ scanned_at is_letter first_byte line from → Scan cs x.next end vs
        → Scan ((title holds holds.Letter) ∷ cs) from end (columns.byte x.value ∷ vs)
    a-natural : {title : String} {most : ℕ} {cs : List Column} {from end : ℕ} {vs : List Value} (x : Scanned ℕ) → x ≡ scanned_at (is_number most) value_of line from → Scan cs x.next end vs
        → Scan ((title holds holds.Natural most) ∷ cs) from end (columns.count x.value ∷ vs)
    a_signed : {title : String} {most : ℕ} {cs : List Column} {from end : ℕ} {vs : List Value} (x : Scanned ℤ) → x ≡ signed_at most line from → Scan cs x.next end vs
        → Scan ((title holds holds.Signed most) ∷ cs) from end (columns.integer x.value ∷ vs)

  scan-ends : {cs : List Column} {from end : ℕ} {vs : List Value} → Scan cs from end vs → end ≡ end_of cs from
  unfolding end_of
  scan-ends done = refl
  scan-ends (an-id {cs = cs} next e s) = scan-ends s ∙ ap (end_of cs) e
  scan-ends (a-name {cs = cs} x e s) = scan-ends s ∙ ap (λ (x : Scanned ℕ). end_of cs x.next) e
  scan-ends (a-letter {cs = cs} x e s) = scan-ends s ∙ ap (λ (x : Scanned ℕ). end_of cs x.next) e
  scan-ends (a-natural {cs = cs} x e s) = scan-ends s ∙ ap (λ (x : Scanned ℕ). end_of cs x.next) e
  scan-ends (a_signed {cs = cs} x e s) = scan-ends s ∙ ap (λ (x : Scanned ℤ). end_of cs x.next) e

  scan-says : {cs : List Column} {from end : ℕ} {vs : List Value} → Scan cs from end vs → vs ≡ said_from cs from
  unfolding said_from said_at
  scan-says done = refl
  scan-says (an-id {cs = cs} {from = from} next e s) = ap (λ (vs : List Value). columns.word (field (drop from line)) ∷ vs) (scan-says s ∙ ap (said_from cs) e)
  scan-says (a-name {cs = cs} x e s) = ap (λ (vs : List Value). columns.named x.value ∷ vs) (scan-says s) ∙ ap (λ (x : Scanned ℕ). columns.named x.value ∷ said_from cs x.next) e
  scan-says (a-letter {cs = cs} x e s) = ap (λ (vs : List Value). columns.byte x.value ∷ vs) (scan-says s) ∙ ap (λ (x : Scanned ℕ). columns.byte x.value ∷ said_from cs x.next) e
  scan-says (a-natural {cs = cs} x e s) = ap (λ (vs : List Value). columns.count x.value ∷ vs) (scan-says s) ∙ ap (λ (x : Scanned ℕ). columns.count x.value ∷ said_from cs x.next) e
  scan-says (a_signed {cs = cs} x e s) = ap (λ (vs : List Value). columns.integer x.value ∷ vs) (scan-says s) ∙ ap (λ (x : Scanned ℤ). columns.integer x.value ∷ said_from cs x.next) e

  module _ {cs : List Column} {end : ℕ} {vs : List Value} (s : Scan cs 0 end vs) (short : length line ≤ longest_line) where
    form : well_formed cs line ≡ eqb end (length line + 1)
    form = row_is cs line short ∙ kept-ends cs 0 (omega arith) ∙ ap (λ (n : ℕ). eqb n (length line + 1)) (sym (scan-ends s))

    pub scan-no-row : (end ≡ length line + 1 → ⊥) → well_formed cs line ≡ false
    scan-no-row h = form ∙ ne_eqb end (length line + 1) h

    pub scan-row : end ≡ length line + 1 → well_formed cs line ≡ true
    scan-row e = form ∙ eq-eqb end (length line + 1) e

    pub scan-values : end ≡ length line + 1 → vs ≡ values cs line
    unfolding values
    scan-values e = scan-says s ∙ kept-says cs 0 (omega arith) (sym (row_is cs line short) ∙ scan-row e)
