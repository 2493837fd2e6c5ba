-- "From record to certificate": the coefficients that the used cells give, in the places of a certificate. Every product or quotient is rounded down once, to
-- 10^-11. W(Al) is no coefficient: its place is left at 0 here.
use Rattle.std.specs.Prelude.{Bool, List, [], ◌∷◌, ltb, ℤ, pos, nat_abs, ◌+ℤ◌, ◌-ℤ◌, ◌*ℤ◌}
use Rattle.std.specs.List.{list_any}
use Rattle.whole.specs.Floor.{floor, quotient}
use Rattle.quantity.specs.Quantities.{one}
use Rattle.quantity.specs.declared.resistance.Ratio.{Ratio}
use Rattle.fit.specs.declared.Point.{Point}
use Rattle.deviation.specs.declared.places.Places.{Places}
use Rattle.deviation.specs.Limits.{largest_coefficient}
use Rattle.deviation.specs.Working.{plain_deviation}

-- n in units of 10^-11 times x in units of 10^-9, rounded down to 10^-11, and n over x likewise, x of either sign. No divisor is 0 where the cells keep their
-- limit.
infixl 7 ◌·◌
unfoldable pub ◌·◌ : ℤ → ℤ → ℤ
n · x = floor (n *ℤ x) one

infixl 7 ◌÷◌
unfoldable pub ◌÷◌ : ℤ → ℤ → ℤ
n ÷ x = quotient (n *ℤ pos one) x

-- No W(Al).
abbrev pub none : Ratio
none = record { 0 = 0 }

-- q = δ/x
abbrev pub q : Point → ℤ
q p = p.delta ÷ p.x

-- r12 and r23: (q2 - q1)/(x2 - x1), of neighbouring cells
abbrev pub r : Point → Point → ℤ
r p p' = (q p' -ℤ q p) ÷ (p'.x -ℤ p.x)

-- One cell: a = q1.
abbrev pub of_one : Point → Places
of_one p₁ = record { a = q p₁; b = pos 0; c = pos 0; d = pos 0; wal = none }

-- Two: b = (q2 - q1)/(x2 - x1); a = q1 - b·x1.
abbrev pub of_two : Point → Point → Places
of_two p₁ p₂ =
    let b = r p₁ p₂ in
    let a = q p₁ -ℤ b · p₁.x in
    record { a = a; b = b; c = pos 0; d = pos 0; wal = none }

-- Three: c = (r23 - r12)/(x3 - x1); b = r12 - c(x1 + x2); a = q1 - b·x1 - (c·x1)·x1.
abbrev pub of_three : Point → Point → Point → Places
of_three p₁ p₂ p₃ =
    let r12 = r p₁ p₂ in
    let r23 = r p₂ p₃ in
    let c = (r23 -ℤ r12) ÷ (p₃.x -ℤ p₁.x) in
    let b = r12 -ℤ c · (p₁.x +ℤ p₂.x) in
    let a = q p₁ -ℤ b · p₁.x -ℤ (c · p₁.x) · p₁.x in
    record { a = a; b = b; c = c; d = pos 0; wal = none }

-- With silver: e is its deviation less the working deviation by a, b, c; z = W(Ag) - W(Al), which is the difference of their x; d = (e/z)/z.
abbrev pub with_silver : Places → Point → Point → Places
with_silver k al ag =
    let e = ag.delta -ℤ plain_deviation k ag.x in
    let z = ag.x -ℤ al.x in
    record { a = k.a; b = k.b; c = k.c; d = e ÷ z ÷ z; wal = none }

-- Not reached: a subrange needs one to four cells.
abbrev pub no_coefficients : Places
no_coefficients = record { a = pos 0; b = pos 0; c = pos 0; d = pos 0; wal = none }

-- By the used cells, from the lowest up; of four, the third is aluminium and the fourth silver.
abbrev pub fit : List Point → Places
fit [] = no_coefficients
fit (p₁ ∷ []) = of_one p₁
fit (p₁ ∷ p₂ ∷ []) = of_two p₁ p₂
fit (p₁ ∷ p₂ ∷ p₃ ∷ []) = of_three p₁ p₂ p₃
fit (p₁ ∷ p₂ ∷ p₃ ∷ p₄ ∷ []) = with_silver (of_three p₁ p₂ p₃) p₃ p₄
fit (p₁ ∷ p₂ ∷ p₃ ∷ p₄ ∷ p₅ ∷ ps) = no_coefficients

-- Some coefficient is beyond its limit.
unfoldable pub beyond : Places → Bool
beyond k = list_any (λ (value : ℤ). ltb largest_coefficient (nat_abs value)) (k.a ∷ k.b ∷ k.c ∷ k.d ∷ [])
