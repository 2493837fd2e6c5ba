-- The first two fields of a row, with the comma after each, stand at its line's start.
use mathlib.Core.Path.{◌≡◌, refl, sym, ap, ◌∙◌}
use mathlib.Core.Bool.{Bool, true, false, false≢true, ◌&&◌}
use mathlib.Core.List.{List, [], ◌∷◌, ◌++◌, append_assoc}
use native.Mathlib.Omega.{arith}
use Prim.Native.Nat.{ℕ, ◌+◌, ◌≤◌}
use lib.Dec.{leb}
use lib.ListN.{length, take, drop, get_or, length-append}
use lib.Seq.{take_at, length-take-le}
use borrow.Author.Tests.{leb-true}
use Rattle.std.specs.List.{list_all}
use Rattle.whole.specs.Text.{ascii}
use Rattle.whole.proofs.Choice.{and_true}
use Rattle.text.specs.Fields.{field, later, fields, sized}
use Rattle.text.specs.Joined.{joined}
use Rattle.text.specs.Columns.{Column, rule, well_formed, longest_line, field_at, names_length}
use Rattle.text.specs.Scanned.{next_at}
use Rattle.text.proofs.Joined.{fields-joined}
use Rattle.text.proofs.Rows.{keep, is_row, keeps, Split, only, comma, split}

module _ (c₁ c₂ c₃ : Column) (cs : List Column) (line : List ℕ) where
  -- where a scan of the line is after them
  pub names-end : well_formed (c₁ ∷ c₂ ∷ c₃ ∷ cs) line ≡ true → next_at (rule c₂) line (next_at (rule c₁) line 0) ≡ names_length line
  names-end w =
      let k = (is_row (c₁ ∷ c₂ ∷ c₃ ∷ cs) line w).kept in
      let one = and_true (rule c₁ (field line)) (keep (c₂ ∷ c₃ ∷ cs) (later line)) k in
      by (split line) one.0 one.1
    where
      by : Split line → rule c₁ (field line) ≡ true → keep (c₂ ∷ c₃ ∷ cs) (later line) ≡ true → next_at (rule c₂) line (next_at (rule c₁) line 0) ≡ names_length line
      by (only l n) r k = absurd (false≢true (ap (keep (c₂ ∷ c₃ ∷ cs)) (sym l) ∙ k))
      by (comma l n) r k =
          let on = length (field line) + 1 in
          let first : next_at (rule c₁) line 0 ≡ on = keeps line (rule c₁) 0 (omega arith) r ∙ (let z : 0 + (length (field line) + 1) ≡ on = omega arith in z) in
          let two = and_true (rule c₂ (field (drop on line))) (keep (c₃ ∷ cs) (later (drop on line))) (ap (keep (c₂ ∷ c₃ ∷ cs)) (sym l) ∙ k) in
          rw (first, l) (keeps line (rule c₂) on n two.0 ∙ omega arith)

  pub record Named : Type 0 where
    pub within : names_length line ≤ length line
    pub first : take (names_length line) line ≡ field_at 0 line ++ ascii "," ++ field_at 1 line ++ ascii ","
    pub rule-one : rule c₁ (field_at 0 line) ≡ true
    pub rule-two : rule c₂ (field_at 1 line) ≡ true

  pub named : well_formed (c₁ ∷ c₂ ∷ c₃ ∷ cs) line ≡ true → Named
  named w = by (fields line) refl (is_row (c₁ ∷ c₂ ∷ c₃ ∷ cs) line w).kept
    where
      by : (fs : List (List ℕ)) → fields line ≡ fs → keep (c₁ ∷ c₂ ∷ c₃ ∷ cs) fs ≡ true → Named
      by [] e k = absurd (false≢true k)
      by (f ∷ []) e k = absurd (false≢true (and_true (rule c₁ f) false k).1)
      by (f ∷ g ∷ []) e k = absurd (false≢true (and_true (rule c₂ g) false (and_true (rule c₁ f) (rule c₂ g && false) k).1).1)
      by (f ∷ g ∷ h ∷ fs) e k =
          let x = f ++ ascii "," ++ g ++ ascii "," in
          let parts : line ≡ x ++ joined (h ∷ fs) =
          sym (fields-joined line) ∙ ap joined e ∙ sym (append_assoc (f ++ ascii ",") (g ++ ascii ",") (joined (h ∷ fs))) ∙ ap (λ (l : List ℕ). l ++ joined (h ∷ fs)) (sym (append_assoc (f ++ ascii ",") g (ascii ","))) in
          let n : length x ≡ length f + 1 + length g + 1 = rw (length-append (f ++ ascii "," ++ g) (ascii ","), length-append (f ++ ascii ",") g, length-append f (ascii ",")) in
          let zero : field_at 0 line ≡ f = ap (λ (fs : List (List ℕ)). get_or fs 0 []) e in
          let one : field_at 1 line ≡ g = ap (λ (fs : List (List ℕ)). get_or fs 1 []) e in
          let i = and_true (rule c₁ f) _ k in
          record {
            within = rw (zero, one) (omega (arith, n, ap length parts, length-append x (joined (h ∷ fs))));
            first = rw (zero, one) (ap (take (length f + 1 + length g + 1)) parts ∙ take_at x (joined (h ∷ fs)) (length f + 1 + length g + 1) n);
            rule-one = rw zero i.0;
            rule-two = rw one (and_true (rule c₂ g) _ i.1).0;
          }

-- a field of a rule by size has no more bytes than that
pub sized-short : (most : ℕ) (kind : ℕ → Bool) (s : List ℕ) → (sized 1 most s && list_all kind s) ≡ true → length s ≤ most
sized-short most kind s e = leb-true (length s) most (and_true (leb 1 (length s)) (leb (length s) most) (and_true (sized 1 most s) (list_all kind s) e).0).1

-- the part of the line that an answer repeats
pub record Repeated (line : List ℕ) (n : ℕ) : Type 0 where
  pub long : n ≡ length (take n line)
  pub short : length (take n line) ≤ longest_line
  pub first : take n line ≡ field_at 0 line ++ ascii "," ++ field_at 1 line ++ ascii ","

pub repeated : (c₁ c₂ c₃ : Column) (cs : List Column) (line : List ℕ) → well_formed (c₁ ∷ c₂ ∷ c₃ ∷ cs) line ≡ true → (n : ℕ) → n ≡ names_length line → Repeated line n
repeated c₁ c₂ c₃ cs line w n e =
    let all = named c₁ c₂ c₃ cs line w in
    let within : n ≤ length line = omega (arith, all.within) in
    let long : length (take n line) ≡ n = length-take-le n line within in
    record {
      long = sym long;
      short = omega (arith, (is_row (c₁ ∷ c₂ ∷ c₃ ∷ cs) line w).short);
      first = ap (λ (k : ℕ). take k line) e ∙ all.first;
    }
