-- The ratio of two resistances: what an answered one is, that it is the nearest and rises with R, which are above 4.4, and that only one answer is allowed.
use Rattle.std.specs.Prelude.{Err, Ok, Result}
use mathlib.Core.Path.{◌≡◌, refl, sym, ◌∙◌, ap}
use mathlib.Core.Bool.{true, ◌&&◌, not}
use mathlib.Core.List.{[], ◌∷◌}
use Prim.Native.Nat.{ℕ, ◌+◌, ◌*◌, ◌/◌, ◌%◌, ◌<◌, ◌≤◌}
use native.Mathlib.Nat.{div-add-mod, div-add-mod', mod-lt, lt_of_mul-lt-mul_left, le_refl}
use native.Mathlib.Decide.{dec_lt}
use native.Mathlib.Omega.{arith}
use borrow.Author.Tests.{le-ltb, lt-ltb, ltb-false, leb-true, not-false}
use lib.Dec.{leb, ltb}
use Rattle.whole.proofs.Choice.{and_true}
use Rattle.quantity.specs.declared.refusal.Refusal.{Refusal}
use Rattle.quantity.specs.declared.resistance.Ratio.{Ratio}
use Rattle.quantity.specs.Quantities.{one, is_reading, is_divisor, least_divisor, largest_resistance, ratio_of, largest_ratio}
use Rattle.quantity.specs.Outcomes.{Outcome, ◌gives◌, number_given, Follows}
use Rattle.quantity.specs.Ratios.{ratio_tests, stated, ratio_rule}
use Rattle.quantity.specs.Promised.{Nearest, RatioNearest, RatioRises, RatioLimit, SetTo, SetHasRatio, RatioMoved}
use Rattle.quantity.proofs.Division.{nearest_below, nearest_above}
use Rattle.quantity.proofs.Outcomes.{one-outcome, not-answered, one-refusal, passed}

-- two resistances that pass the tests
pub record Passed (r r0 : ℕ) : Type 0 where
  pub reading : is_reading r ≡ true
  pub divisor : is_divisor r0 ≡ true
  pub within : ratio_of r r0 ≤ largest_ratio

pub ratio_passed : (r r0 : ℕ) → number_given (ratio_tests r r0) ≡ 0 → Passed r r0
ratio_passed r r0 e =
    let inside = passed (not (is_reading r && is_divisor r0)) 1 (ltb largest_ratio (ratio_of r r0) gives 2 ∷ []) (omega arith) e in
    let within = passed (ltb largest_ratio (ratio_of r r0)) 2 [] (omega arith) inside.1 in
    let both = and_true (is_reading r) (is_divisor r0) (not-false (is_reading r && is_divisor r0) inside.0) in
    record { reading = both.0; divisor = both.1; within = ltb-false largest_ratio (ratio_of r r0) within.0 }

pub divisor_above : (r0 : ℕ) → is_divisor r0 ≡ true → 0 < r0
divisor_above r0 e =
    let least : least_divisor ≤ r0 = leb-true least_divisor r0 (and_true (leb least_divisor r0) (leb r0 largest_resistance) e).0 in
    omega (arith, least)

-- ---- the nearest
near : (r r0 : ℕ) → 0 < r0 → Nearest r r0 (ratio_of r r0)
near r r0 p =
    let n = 2 * (r * one) + r0 in
    let under : n % (2 * r0) < 2 * r0 = mod-lt n (omega arith) in
    record { not_above = omega (arith, div-add-mod n (2 * r0)); not_below = omega (arith, div-add-mod n (2 * r0), under) }

-- a larger resistance has no smaller ratio
ordered : (r r' r0 v w : ℕ) → r ≤ r' → Nearest r r0 v → Nearest r' r0 w → v ≤ w
ordered r r' r0 v w h x y =
    let q : v < w + 1 = lt_of_mul-lt-mul_left (2 * r0) (omega (arith, x.not_above, y.not_below, h)) in
    omega arith

one_nearest : (r r0 v w : ℕ) → Nearest r r0 v → Nearest r r0 w → v ≡ w
one_nearest r r0 v w x y = omega (arith, ordered r r r0 v w (le_refl r) x y, ordered r r r0 w v (le_refl r) y x)

pub nearest : RatioNearest
nearest r r0 d =
    let x = near r r0 (divisor_above r0 d) in
    (x, λ w y. one_nearest r r0 w (ratio_of r r0) y x)

pub rises : RatioRises
rises r r' r0 d h =
    let p = divisor_above r0 d in
    ordered r r' r0 (ratio_of r r0) (ratio_of r' r0) h (near r r0 p) (near r' r0 p)

-- ---- the limit
limit_kept : (r r0 w : ℕ) → Nearest r r0 w → 2 * (r * one) < (2 * largest_ratio + 1) * r0 → w ≤ largest_ratio
limit_kept r r0 w x h =
    let q : w < largest_ratio + 1 = lt_of_mul-lt-mul_left (2 * r0) (omega (arith, x.not_above, h)) in
    omega arith

limit_passed : (r r0 w : ℕ) → Nearest r r0 w → (2 * largest_ratio + 1) * r0 ≤ 2 * (r * one) → largest_ratio < w
limit_passed r r0 w x h =
    let q : largest_ratio + 1 < w + 1 = lt_of_mul-lt-mul_left (2 * r0) (omega (arith, x.not_below, h)) in
    omega arith

pub limit : RatioLimit
limit r r0 d =
    let w = ratio_of r r0 in
    let x = near r r0 (divisor_above r0 (and_true (is_reading r) (is_divisor r0) d).1) in
    (λ h. rw (d, le-ltb largest_ratio w (limit_kept r r0 w x h)) refl, λ h. rw (d, lt-ltb largest_ratio w (limit_passed r r0 w x h)) refl)

-- ---- a resistance that was set by its ratio
-- by 1 Ω it is the ratio itself
set_by_ohm : (r w : ℕ) → SetTo r one w → Nearest r one w
set_by_ohm r w x = record { not_above = omega (arith, x.not_below); not_below = omega (arith, x.not_above) }

set_nearest : (r r0 w : ℕ) → one ≤ r0 → SetTo r r0 w → Nearest r r0 w
set_nearest r r0 w h x = by (dec_lt one r0)
  where
    by : Dec (one < r0) → Nearest r r0 w
    by (yes l) = record { not_above = omega (arith, x.not_below); not_below = omega (arith, x.not_above) }
    by (no l) =
        let e : r0 ≡ one = omega arith in
        rw e (set_by_ohm r w (rw e at x))

pub set_has_ratio : SetHasRatio
set_has_ratio r r0 w h x = sym (one_nearest r r0 w (ratio_of r r0) (set_nearest r r0 w (omega arith) x) (near r r0 (omega arith)))

-- ---- the ratio before request 7
pub moved : RatioMoved
moved r r0 d =
    let n = r * one in
    let whole : n / r0 * r0 + n % r0 ≡ n = div-add-mod' n r0 in
    (λ h. nearest_below n r0 (n / r0) (n % r0) whole h, λ h. nearest_above n r0 (n / r0) (n % r0) whole h (mod-lt n (divisor_above r0 d)))

-- ---- one answer
stated_unique : (x y : Result Ratio Refusal) → stated x ≡ stated y → x ≡ y
stated_unique (Ok v) (Ok w) e = ap (λ (o : Outcome ℕ). Ok (record { 0 = o.answer })) e
stated_unique (Ok v) (Err why) e = absurd (not-answered 0 v.0 why e)
stated_unique (Err why) (Ok w) e = absurd (not-answered 0 w.0 why (sym e))
stated_unique (Err v) (Err w) e = ap Err (one-refusal 0 v w e)

pub one-ratio : (r r0 : ℕ) (x y : Result Ratio Refusal) → Follows (ratio_rule r r0) (stated x) → Follows (ratio_rule r r0) (stated y) → x ≡ y
one-ratio r r0 x y h i = stated_unique x y (one-outcome (ratio_rule r r0) (λ v w p q. p ∙ sym q) (stated x) (stated y) h i)
