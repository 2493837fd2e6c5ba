-- A line ends at one place.
use mathlib.Core.Path.{◌≡◌, refl, sym, ap, ◌∙◌}
use mathlib.Core.List.{List, [], ◌∷◌, ◌++◌}
use Prim.Native.Nat.{ℕ, ◌+◌, ◌-◌, ◌<◌}
use native.Mathlib.Decide.{dec_lt}
use native.Mathlib.Omega.{arith}
use lib.ListN.{length, take, drop}
use lib.Seq.{take-add}
use Rattle.lines.specs.Lines.{all_but_last, ended, begun}
use Rattle.lines.specs.Ends.{EndsAt, EndsAfter}
use Rattle.lines.proofs.Lines.{ended-append, ended-one}

not-before : (line s : List ℕ) (i j : ℕ) → EndsAt line s i → EndsAt line s j → i < j → ⊥
not-before line s i j p q h =
    let rest : List ℕ = take (j - (i + 1)) (drop (i + 1) s) in
    let sum : j ≡ i + 1 + (j - (i + 1)) = omega arith in
    let cut : take j s ≡ take (i + 1) s ++ rest = ap (λ (n : ℕ). take n s) sum ∙ take-add (i + 1) (j - (i + 1)) s in
    let ends : ended line (take (i + 1) s) ≡ all_but_last (line ++ take i s) ∷ [] = ended-one line s i p (omega (arith, q.within)) in
    let some : ended line (take j s) ≡ (all_but_last (line ++ take i s) ∷ []) ++ ended (begun line (take (i + 1) s)) rest =
    ap (ended line) cut ∙ ended-append line (take (i + 1) s) rest ∙ ap (λ (ls : List (List ℕ)). ls ++ ended (begun line (take (i + 1) s)) rest) ends in
    let none = ap length (sym some ∙ q.before) in
    omega (arith, none)

pub one_end : (last : ℕ) (s : List ℕ) (i j : ℕ) → EndsAfter last s i → EndsAfter last s j → i ≡ j
one_end last s i j p q =
    let a = p (last ∷ []) refl in
    let b = q (last ∷ []) refl in
    elim (dec_lt i j) [
      | yes h ↦ absurd (not-before (last ∷ []) s i j a b h)
      | no h ↦ elim (dec_lt j i) [ yes k ↦ absurd (not-before (last ∷ []) s j i b a k) | no k ↦ omega (arith, h, k) ]
    ]
