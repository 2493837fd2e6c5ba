-- Lines of bytes that come one after the other.
use mathlib.Core.Path.{◌≡◌, refl, ap, ap₂, ◌∙◌}
use mathlib.Core.Bool.{Bool, true, false, false≢true}
use mathlib.Core.List.{List, [], ◌∷◌, ◌++◌, append-nil}
use Prim.Native.Nat.{ℕ, ◌+◌, ◌-◌, ◌≤◌, ◌<◌}
use Prim.Native.Char.{code}
use native.Mathlib.Omega.{arith}
use native.Mathlib.Numerals.{add-one}
use lib.Dec.{eqb}
use lib.ListN.{length, get_or, take, drop, length-append, length-drop}
use lib.Seq.{take-add, take-suc, take-take, get_or-append_seam, get_or-drop, length-take-le}
use Rattle.whole.specs.Choice.{if◌then◌otherwise◌}
use Rattle.whole.proofs.Choice.{and_true}
use Rattle.lines.specs.Lines.{last_byte, all_but_last, ends_line, ended, begun}
use Rattle.lines.specs.Ends.{EndsAt}

pub ended-append : (line x y : List ℕ) → ended line (x ++ y) ≡ ended line x ++ ended (begun line x) y
ended-append line [] y = refl
ended-append line (b ∷ x) y = by (ends_line line b) (ended-append [] x y) (ended-append (line ++ (b ∷ [])) x y)
  where
    by : (t : Bool) → ended [] (x ++ y) ≡ ended [] x ++ ended (begun [] x) y
        → ended (line ++ (b ∷ [])) (x ++ y) ≡ ended (line ++ (b ∷ [])) x ++ ended (begun (line ++ (b ∷ [])) x) y
        → (if t then all_but_last line ∷ ended [] (x ++ y) otherwise ended (line ++ (b ∷ [])) (x ++ y))
        ≡ (if t then all_but_last line ∷ ended [] x otherwise ended (line ++ (b ∷ [])) x) ++ ended (if t then begun [] x otherwise begun (line ++ (b ∷ [])) x) y
    by true p q = ap (λ (ls : List (List ℕ)). all_but_last line ∷ ls) p
    by false p q = q

pub begun-append : (line x y : List ℕ) → begun line (x ++ y) ≡ begun (begun line x) y
begun-append line [] y = refl
begun-append line (b ∷ x) y = by (ends_line line b) (begun-append [] x y) (begun-append (line ++ (b ∷ [])) x y)
  where
    by : (t : Bool) → begun [] (x ++ y) ≡ begun (begun [] x) y → begun (line ++ (b ∷ [])) (x ++ y) ≡ begun (begun (line ++ (b ∷ [])) x) y
        → (if t then begun [] (x ++ y) otherwise begun (line ++ (b ∷ [])) (x ++ y)) ≡ begun (if t then begun [] x otherwise begun (line ++ (b ∷ [])) x) y
    by true p q = p
    by false p q = q

-- one more byte
module _ (line x : List ℕ) (b : ℕ) where
  pub ended-more : ends_line (begun line x) b ≡ false → ended line (x ++ (b ∷ [])) ≡ ended line x
  ended-more e = ended-append line x (b ∷ []) ∙ rw e (append-nil (ended line x))

  pub begun_more : ends_line (begun line x) b ≡ false → begun line (x ++ (b ∷ [])) ≡ begun line x ++ (b ∷ [])
  begun_more e = begun-append line x (b ∷ []) ∙ rw e

  pub ended-end : ends_line (begun line x) b ≡ true → ended line (x ++ (b ∷ [])) ≡ ended line x ++ (all_but_last (begun line x) ∷ [])
  ended-end e = ended-append line x (b ∷ []) ∙ rw e

  pub begun-end : ends_line (begun line x) b ≡ true → begun line (x ++ (b ∷ [])) ≡ []
  begun-end e = begun-append line x (b ∷ []) ∙ rw e

pub last_more : (line : List ℕ) (b : ℕ) → last_byte (line ++ (b ∷ [])) ≡ b
last_more line b =
    let e : length (line ++ (b ∷ [])) - 1 ≡ length line = rw length-append (omega arith) in
    rw e (get_or-append_seam line b [] 0)

pub front_take : (i : ℕ) (s : List ℕ) → i ≤ length s → all_but_last (take i s) ≡ take (i - 1) s
front_take i s h = rw (length-take-le i s h) (take-take (i - 1) i s (omega arith))

-- only a line that has a byte is ended
pub ends_some : (line : List ℕ) (b : ℕ) → ends_line line b ≡ true → 1 ≤ length line
ends_some [] b e = absurd (false≢true (and_true (eqb b (code "\n")) false e).1)
ends_some (a ∷ line) b e = omega arith

pub ends_after_some : (s : List ℕ) (i : ℕ) → EndsAt [] s i → i < length s → 1 ≤ i
ends_after_some s i at more =
    let some : 1 ≤ length (take i s) = ends_some (take i s) (get_or s i 0) (at.ends more) in
    let len : length (take i s) ≡ i = length-take-le i s at.within in
    omega arith

-- The bytes up to the one that ends a line, and it.
module _ (line s : List ℕ) (i : ℕ) (at : EndsAt line s i) (more : i < length s) where
  byte : take (i + 1) s ≡ take i s ++ (get_or s i 0 ∷ [])
  byte = rw add-one (take-suc s i 0 more)

  here : ends_line (begun line (take i s)) (get_or s i 0) ≡ true
  here = rw at.whole (at.ends more)

  pub ended-one : ended line (take (i + 1) s) ≡ all_but_last (line ++ take i s) ∷ []
  ended-one =
      ap (ended line) byte ∙ ended-end line (take i s) (get_or s i 0) here
      ∙ ap₂ (λ (ls : List (List ℕ)) (l : List ℕ). ls ++ (all_but_last l ∷ [])) at.before at.whole

  pub begun-none : begun line (take (i + 1) s) ≡ []
  begun-none = ap (begun line) byte ∙ begun-end line (take i s) (get_or s i 0) here

-- The same from an offset of a chunk on: first up to that byte, where the chunk may have none, and then with it.
module _ (line chunk : List ℕ) (from i : ℕ) (at : EndsAt (begun line (take from chunk)) (drop from chunk) i) where
  pub ended-before : ended line (take (from + i) chunk) ≡ ended line (take from chunk)
  ended-before =
      ap (ended line) (take-add from i chunk) ∙ ended-append line (take from chunk) (take i (drop from chunk))
      ∙ ap (λ (ls : List (List ℕ)). ended line (take from chunk) ++ ls) at.before ∙ append-nil (ended line (take from chunk))

  pub begun-before : begun line (take (from + i) chunk) ≡ begun line (take from chunk) ++ take i (drop from chunk)
  begun-before = ap (begun line) (take-add from i chunk) ∙ begun-append line (take from chunk) (take i (drop from chunk)) ∙ at.whole

  module _ (more : from + i < length chunk) where
    inside : i < length (drop from chunk)
    inside = rw length-drop (omega arith)

    with_it : take (from + i + 1) chunk ≡ take from chunk ++ take (i + 1) (drop from chunk)
    with_it =
        let e : from + i + 1 ≡ from + (i + 1) = omega arith in
        rw e (take-add from (i + 1) chunk)

    pub ends-here : ends_line (begun line (take (from + i) chunk)) (get_or chunk (from + i) 0) ≡ true
    ends-here = rw (begun-before, ← get_or-drop from chunk i 0) (at.ends inside)

    pub ended-with : ended line (take (from + i + 1) chunk) ≡ ended line (take from chunk) ++ (all_but_last (begun line (take from chunk) ++ take i (drop from chunk)) ∷ [])
    ended-with =
        ap (ended line) with_it ∙ ended-append line (take from chunk) (take (i + 1) (drop from chunk))
        ∙ ap (λ (ls : List (List ℕ)). ended line (take from chunk) ++ ls) (ended-one (begun line (take from chunk)) (drop from chunk) i at inside)

    pub begun-with : begun line (take (from + i + 1) chunk) ≡ []
    begun-with =
        ap (begun line) with_it ∙ begun-append line (take from chunk) (take (i + 1) (drop from chunk))
        ∙ begun-none (begun line (take from chunk)) (drop from chunk) i at inside

    -- where nothing is begun before
    pub ended-whole : begun line (take from chunk) ≡ [] → ended line (take (from + i + 1) chunk) ≡ ended line (take from chunk) ++ (take (i - 1) (drop from chunk) ∷ [])
    ended-whole e =
        let front : all_but_last (take i (drop from chunk)) ≡ take (i - 1) (drop from chunk) = front_take i (drop from chunk) at.within in
        ended-with ∙ ap (λ (l : List ℕ). ended line (take from chunk) ++ (l ∷ [])) (ap (λ (l : List ℕ). all_but_last (l ++ take i (drop from chunk))) e ∙ front)
