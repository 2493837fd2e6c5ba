-- No text at all always fits.
use mathlib.Core.Path.{refl}
use mathlib.Core.List.{List, []}
use native.Mathlib.Omega.{arith}
use Prim.Native.Nat.{ℕ}
use lib.ListN.{length}
use borrow.Author.Tests.{le-leb}
use Rattle.std.specs.Prelude.{Some}
use Rattle.line.specs.Lent.{Placed, PlacedAs}

pub nothing_placed : (out : List ℕ) → Placed 0 [] out out (record { code = 0; wrote = 0 })
nothing_placed out = rw (le-leb 0 (length out) (omega arith)) (refl, refl)

pub nothing-fits : (out : List ℕ) → PlacedAs 0 [] out out (Some (record { code = 0; wrote = 0 }))
nothing-fits out = rw (le-leb 0 (length out) (omega arith)) (refl, refl)
