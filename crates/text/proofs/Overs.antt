-- Texts written over a buffer.
use mathlib.Core.Path.{◌≡◌, sym, ap, ◌∙◌}
use mathlib.Core.List.{List, [], ◌∷◌, ◌++◌, append_assoc}
use native.Mathlib.Nat.{zero-add}
use native.Mathlib.Omega.{arith}
use Prim.Native.Nat.{ℕ, suc, ◌<◌}
use lib.ListN.{length, take, drop, set, get_or, length-append}
use lib.Seq.{take-append_seam, drop-append-add, drop-drop, take-suc, length-take-le, set_at, paste, take-length}
use Rattle.text.specs.Writing.{over}

-- a text at the start
pub over_start : (text out : List ℕ) → over out 0 text ≡ text ++ drop (length text) out
over_start text out = ap (λ (n : ℕ). text ++ drop n out) (zero-add (length text))

-- a second text right after the first
pub over_more : (x y out out₁ : List ℕ) (at : ℕ) → at ≡ length x → out₁ ≡ x ++ drop (length x) out → over out₁ at y ≡ (x ++ y) ++ drop (length (x ++ y)) out
over_more x y out out₁ at a e =
    rw (a, e, take-append_seam x (drop (length x) out), drop-append-add x (drop (length x) out) (length y), drop-drop (length y) (length x) out, length-append x y)

pub over_pasted : (out : List ℕ) (at : ℕ) (text : List ℕ) → paste out at text (length text) ≡ over out at text
over_pasted out at text = rw (take-length text)

-- a byte written before a tail that stands where the first bytes of the buffer end
pub over-before : (out tail more : List ℕ) (j b : ℕ) → j < length out → set (take (suc j) out ++ tail ++ more) j b ≡ take j out ++ (b ∷ tail) ++ more
over-before out tail more j b h =
    rw (take-suc out j 0 h, append_assoc (take j out ++ (get_or out j 0 ∷ [])) tail more, append_assoc (take j out) (get_or out j 0 ∷ []) (tail ++ more))
    (set_at (take j out) (get_or out j 0) (tail ++ more) b j (length-take-le j out (omega arith)) ∙ sym (append_assoc (take j out) (b ∷ tail) more))
