-- Adding to what is held of a partial line.
use mathlib.Core.Path.{◌≡◌, sym, ap, ap₂, ◌∙◌}
use mathlib.Core.List.{List, [], ◌∷◌, ◌++◌, append_assoc}
use Prim.Native.Nat.{ℕ, ◌+◌, ◌-◌, ◌≤◌, ◌<◌}
use native.Mathlib.Omega.{arith}
use native.Mathlib.Decide.{dec_le}
use lib.ListN.{length, get_or, take, drop, set, length-append, take-append-drop}
use lib.Seq.{take-take, take-append-le, take-append-add, take-append_seam, get_or-append-add, length-take-le, drop-cons, set_at}
use Rattle.lines.specs.Lines.{last_byte}
use Rattle.lines.specs.Held.{most_held, capped, Appended}
use Rattle.lines.proofs.Capped.{capped-under, capped-over}

-- of a line that is too long all places are taken
over-long : (line : List ℕ) → most_held ≤ length line → length (capped line) ≡ most_held
over-long line h =
    ap length (capped-over line h) ∙ length-append (take (most_held - 1) line) (last_byte line ∷ []) ∙ rw (length-take-le (most_held - 1) line (omega arith))

pub capped_few : (line : List ℕ) → length (capped line) ≤ most_held
capped_few line =
    elim (dec_le (length line) most_held) [
      | yes h ↦ rw (capped-under line h) h
      | no h ↦ omega (arith, over-long line (omega (arith, h)))
    ]

-- what is held then
module _ {before : List ℕ} {count : ℕ} {s after : List ℕ} {r : ℕ} (a : Appended before count s after r) where
  pub appended-few : r ≤ most_held
  appended-few = rw a.counted (capped_few (take count before ++ s))

  pub appended-held : take r after ≡ capped (take count before ++ s)
  appended-held = ap₂ take a.counted a.bytes ∙ take-append_seam (capped (take count before ++ s)) _

module _ (before s : List ℕ) (count : ℕ) (long : length before ≡ most_held) (few : count ≤ most_held) where
  abbrev line : List ℕ
  line = take count before ++ s

  begun-long : length (take count before) ≡ count
  begun-long = length-take-le count before (omega arith)

  line-long : length line ≡ count + length s
  line-long = length-append (take count before) s ∙ ap (λ (n : ℕ). n + length s) begun-long

  -- What fills all but the last place: bytes of s, or none where those places are taken.
  pub fill-copied : count < most_held - 1 → most_held < count + length s
      → take count before ++ take (most_held - 1 - count) s ++ drop (count + length (take (most_held - 1 - count) s)) before ≡ take (most_held - 1) line ++ drop (most_held - 1) before
  fill-copied h k =
      let l : length (take (most_held - 1 - count) s) ≡ most_held - 1 - count = length-take-le (most_held - 1 - count) s (omega arith) in
      let end : count + length (take (most_held - 1 - count) s) ≡ most_held - 1 = omega arith in
      let all : length (take count before) + (most_held - 1 - count) ≡ most_held - 1 = omega (arith, begun-long) in
      ap₂ (λ (x : List ℕ) (n : ℕ). x ++ drop n before) (sym (take-append-add (take count before) s (most_held - 1 - count)) ∙ ap (λ (n : ℕ). take n line) all) end

  pub fill-full : most_held - 1 ≤ count → before ≡ take (most_held - 1) line ++ drop (most_held - 1) before
  fill-full h =
      sym (ap (λ (x : List ℕ). x ++ drop (most_held - 1) before) (take-append-le (most_held - 1) (take count before) s (omega (arith, begun-long)) ∙ take-take (most_held - 1) count before h)
      ∙ take-append-drop (most_held - 1) before)

  pub append-over : (filled : List ℕ) → most_held < count + length s → filled ≡ take (most_held - 1) line ++ drop (most_held - 1) before
      → Appended before count s (set filled (most_held - 1) (get_or s (length s - 1) 0)) most_held
  append-over filled k e =
      let b = get_or s (length s - 1) 0 in
      let i : length line - 1 ≡ length (take count before) + (length s - 1) = omega (arith, line-long, begun-long) in
      let last : last_byte line ≡ b = ap (λ (j : ℕ). get_or line j 0) i ∙ get_or-append-add (take count before) s (length s - 1) 0 in
      let enough : most_held ≤ length line = omega (arith, line-long) in
      let first = take (most_held - 1) line in
      let first-long : length first ≡ most_held - 1 = length-take-le (most_held - 1) line (omega arith) in
      record {
        counted = sym (over-long line enough);
        bytes =
            ap (λ (x : List ℕ). set x (most_held - 1) b) (e ∙ ap (λ (x : List ℕ). first ++ x) (drop-cons before (most_held - 1) 0 (omega arith)))
            ∙ set_at first (get_or before (most_held - 1) 0) (drop most_held before) b (most_held - 1) first-long ∙ sym (append_assoc first (b ∷ []) (drop most_held before))
            ∙ ap (λ (x : List ℕ). x ++ drop most_held before) (ap (λ (z : ℕ). first ++ (z ∷ [])) (sym last) ∙ sym (capped-over line enough));
      }
