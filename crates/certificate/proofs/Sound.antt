-- What a sound certificate says of its places: they keep their limits.
use mathlib.Core.Path.{◌≡◌}
use mathlib.Core.Bool.{Bool, true, false, ◌&&◌}
use Prim.Native.Nat.{ℕ, ◌≤◌}
use native.Mathlib.Omega.{arith}
use borrow.Author.Tests.{leb-true, eqb-true}
use lib.Dec.{leb, ltb, eqb}
use lib.IntN.{ℤ, nat_abs}
use Rattle.whole.specs.Choice.{if◌then◌otherwise◌}
use Rattle.whole.proofs.Choice.{and_true}
use Rattle.law.specs.declared.subrange.Subrange.{Subrange}
use Rattle.law.specs.declared.laws.Law.TheVariants.{Scale}
use Rattle.law.specs.Subranges.{carried, law_coefficients}
use Rattle.deviation.specs.declared.places.Places.{Places}
use Rattle.deviation.specs.Limits.{largest_coefficient, Limited}
use Rattle.certificate.specs.Certificate.{place_kept, aluminium_kept, sound}

kept : (used place : ℕ) (v : ℤ) → place_kept used place v ≡ true → nat_abs v ≤ largest_coefficient
kept used place v = by (ltb place used)
  where
    by : (t : Bool) → (if t then leb (nat_abs v) largest_coefficient otherwise eqb (nat_abs v) 0) ≡ true → nat_abs v ≤ largest_coefficient
    by true e = leb-true (nat_abs v) largest_coefficient e
    by false e = omega (arith, eqb-true (nat_abs v) 0 e)

pub sound_limited : (s : Subrange) (k : Places) → sound (record { law = Scale s; places = k }) ≡ true → Limited (carried s).form k
sound_limited s k e =
    let used = law_coefficients (Scale s) in
    let p = place_kept used in
    let d = and_true (p 0 k.a && p 1 k.b && p 2 k.c && p 3 k.d) (aluminium_kept (Scale s) k.wal.0) e in
    let c = and_true (p 0 k.a && p 1 k.b && p 2 k.c) (p 3 k.d) d.0 in
    let b = and_true (p 0 k.a && p 1 k.b) (p 2 k.c) c.0 in
    let a = and_true (p 0 k.a) (p 1 k.b) b.0 in
    record {
      small =
          record {
            a = kept used 0 k.a a.0;
            b = kept used 1 k.b a.1;
            c = kept used 2 k.c b.1;
            d = kept used 3 k.d c.1;
          };
      aluminium = λ silver. rw silver at d.1;
    }
