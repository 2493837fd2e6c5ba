-- What is held of a partial line says as much as the line.
use mathlib.Core.Path.{◌≡◌, refl, sym, ap, ap₂, ◌∙◌, subst}
use mathlib.Core.Bool.{Bool, true, false, ◌&&◌}
use mathlib.Core.List.{List, [], ◌∷◌, ◌++◌, append_assoc, append-nil}
use Prim.Native.Nat.{ℕ, suc, ◌-◌, ◌≤◌, ◌<◌}
use Prim.Native.Char.{code}
use native.Mathlib.Omega.{arith}
use native.Mathlib.Decide.{dec_le}
use lib.Dec.{eqb}
use lib.ListN.{length, take, length-append}
use lib.Seq.{take-suc, take_all, take-append-le, take_at, length-take-le}
use borrow.Author.Tests.{le-leb, lt-leb}
use Rattle.whole.specs.Choice.{if◌then◌otherwise◌}
use Rattle.lines.specs.Lines.{last_byte, ends_line, begun}
use Rattle.lines.specs.Held.{most_held, capped}
use Rattle.lines.proofs.Lines.{last_more}

-- Two lines that are one, or of which no more than their first bytes and the last can matter, and those are the same.
pub data Alike (p q : List ℕ) : Type 0 where
  equal : p ≡ q → Alike p q
  over : most_held ≤ length p → most_held ≤ length q → take (most_held - 1) p ≡ take (most_held - 1) q → last_byte p ≡ last_byte q → Alike p q

pub alike_sym : {p q : List ℕ} → Alike p q → Alike q p
alike_sym (equal e) = equal (sym e)
alike_sym (over hp hq e l) = over hq hp (sym e) (sym l)

pub capped-under : (line : List ℕ) → length line ≤ most_held → capped line ≡ line
capped-under line h = rw (le-leb (length line) most_held h)

-- also of a line that is held whole
pub capped-over : (line : List ℕ) → most_held ≤ length line → capped line ≡ take (most_held - 1) line ++ (last_byte line ∷ [])
capped-over line h =
    elim (dec_le (suc most_held) (length line)) [
      | yes k ↦ rw (lt-leb (length line) most_held k)
      | no k ↦
          let e : length line ≡ most_held = omega (arith, k) in
          let i : most_held - 1 < length line = omega arith in
          capped-under line (omega arith) ∙ sym (take_all most_held line (omega arith)) ∙ take-suc line (most_held - 1) 0 i ∙ rw e
    ]

short-alike : (line : List ℕ) → most_held ≤ length line → Alike (take (most_held - 1) line ++ (last_byte line ∷ [])) line
short-alike line h =
    let len : length (take (most_held - 1) line) ≡ most_held - 1 = length-take-le (most_held - 1) line (omega arith) in
    over (rw (length-append, len) (omega arith)) h (take_at (take (most_held - 1) line) (last_byte line ∷ []) (most_held - 1) len) (last_more (take (most_held - 1) line) (last_byte line))

pub capped-alike : (line : List ℕ) → Alike (capped line) line
capped-alike line =
    elim (dec_le (length line) most_held) [
      | yes h ↦ equal (capped-under line h)
      | no h ↦
          let k : most_held ≤ length line = omega (arith, h) in
          subst (λ (s : List ℕ). Alike s line) (sym (capped-over line k)) (short-alike line k)
    ]

pub alike-capped : {p q : List ℕ} → Alike p q → capped p ≡ capped q
alike-capped (equal e) = ap capped e
alike-capped {p} {q} (over hp hq e l) = capped-over p hp ∙ ap₂ (λ (s : List ℕ) (b : ℕ). s ++ (b ∷ [])) e l ∙ sym (capped-over q hq)

pub alike-last : {p q : List ℕ} → Alike p q → last_byte p ≡ last_byte q
alike-last (equal e) = ap last_byte e
alike-last (over hp hq e l) = l

pub alike-ends : {p q : List ℕ} → Alike p q → (b : ℕ) → ends_line p b ≡ ends_line q b
alike-ends a b = ap (λ (last : ℕ). eqb b (code "\n") && eqb last (code "\r")) (alike-last a)

-- with more bytes after them
pub alike-byte : {p q : List ℕ} → Alike p q → (b : ℕ) → Alike (p ++ (b ∷ [])) (q ++ (b ∷ []))
alike-byte (equal e) b = equal (ap (λ (s : List ℕ). s ++ (b ∷ [])) e)
alike-byte {p} {q} (over hp hq e l) b =
    over (rw length-append (omega arith)) (rw length-append (omega arith))
    (take-append-le (most_held - 1) p (b ∷ []) (omega arith) ∙ e ∙ sym (take-append-le (most_held - 1) q (b ∷ []) (omega arith)))
    (last_more p b ∙ sym (last_more q b))

pub alike-append : {p q : List ℕ} → Alike p q → (s : List ℕ) → Alike (p ++ s) (q ++ s)
alike-append {p} {q} a [] = subst (λ (x : List ℕ). Alike x (q ++ [])) (sym (append-nil p)) (subst (λ (x : List ℕ). Alike p x) (sym (append-nil q)) a)
alike-append {p} {q} a (b ∷ s) = rw (← append_assoc p (b ∷ []) s, ← append_assoc q (b ∷ []) s) (alike-append (alike-byte a b) s)

pub alike-begun : {p q : List ℕ} → Alike p q → (s : List ℕ) → Alike (begun p s) (begun q s)
alike-begun a [] = a
alike-begun {p} {q} a (b ∷ s) = rw (alike-ends a b) (by (ends_line q b) (alike-begun (alike-byte a b) s))
  where
    by : (t : Bool) → Alike (begun (p ++ (b ∷ [])) s) (begun (q ++ (b ∷ [])) s) → Alike (if t then begun [] s otherwise begun (p ++ (b ∷ [])) s) (if t then begun [] s otherwise begun (q ++ (b ∷ [])) s)
    by true k = equal refl
    by false k = k

module _ (line : List ℕ) where
  pub capped-last : last_byte (capped line) ≡ last_byte line
  capped-last = alike-last (capped-alike line)

  pub capped-ends : (b : ℕ) → ends_line (capped line) b ≡ ends_line line b
  capped-ends = alike-ends (capped-alike line)

  pub capped-append : (s : List ℕ) → capped (capped line ++ s) ≡ capped (line ++ s)
  capped-append s = alike-capped (alike-append (capped-alike line) s)

  pub capped-begun : (s : List ℕ) → capped (begun (capped line) s) ≡ capped (begun line s)
  capped-begun s = alike-capped (alike-begun (capped-alike line) s)
