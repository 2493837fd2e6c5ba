-- Places none of which is beyond its limit.
use mathlib.Core.Path.{◌≡◌, refl}
use mathlib.Core.Bool.{Bool, true, false, false≢true, ◌||◌}
use mathlib.Core.List.{[], ◌∷◌}
use borrow.Author.Tests.{ltb-false}
use lib.Dec.{ltb}
use lib.IntN.{ℤ, pos, nat_abs}
use Rattle.std.specs.List.{list_any}
use Rattle.whole.proofs.Any.{or_false}
use Rattle.deviation.specs.Limits.{largest_coefficient, Small}
use Rattle.fit.specs.declared.Point.{Point}
use Rattle.deviation.specs.declared.places.Places.{Places}
use Rattle.fit.specs.Fit.{beyond, with_silver}

pub all_within : (k : Places) → beyond k ≡ false → Small k
unfolding beyond
all_within k e =
    let large : ℤ → Bool = λ (value : ℤ). ltb largest_coefficient (nat_abs value) in
    let a = or_false (large k.a) (list_any large (k.b ∷ k.c ∷ k.d ∷ [])) e in
    let b = or_false (large k.b) (list_any large (k.c ∷ k.d ∷ [])) a.1 in
    let c = or_false (large k.c) (list_any large (k.d ∷ [])) b.1 in
    let d = or_false (large k.d) false c.1 in
    record {
      a = ltb-false largest_coefficient (nat_abs k.a) a.0;
      b = ltb-false largest_coefficient (nat_abs k.b) b.0;
      c = ltb-false largest_coefficient (nat_abs k.c) c.0;
      d = ltb-false largest_coefficient (nat_abs k.d) d.0;
    }

-- where a, b or c is beyond its limit, d is no help
pub silver_beyond : (k : Places) (al ag : Point) → k.d ≡ pos 0 → beyond k ≡ true → beyond (with_silver k al ag) ≡ true
unfolding beyond
silver_beyond k al ag z e = by (large k.a) (large k.b) (large k.c) (large (with_silver k al ag).d) (rw z at e)
  where
    large : ℤ → Bool
    large value = ltb largest_coefficient (nat_abs value)

    by : (a b c d : Bool) → (a || (b || (c || false))) ≡ true → (a || (b || (c || (d || false)))) ≡ true
    by true b c d e = refl
    by false true c d e = refl
    by false false true d e = refl
    by false false false d e = absurd (false≢true e)
