-- Texts in a buffer that has room for them, and in one that has not.
use mathlib.Core.Path.{◌≡◌, refl, ap, ◌∙◌}
use mathlib.Core.List.{List, ◌++◌}
use mathlib.Core.Bool.{Bool, true, false}
use native.Mathlib.Omega.{arith}
use Prim.Native.Nat.{ℕ, ◌+◌, ◌≤◌, ◌<◌}
use lib.Dec.{leb}
use lib.ListN.{length, drop, length-append}
use borrow.Author.Tests.{le-leb, lt-leb, leb-true}
use Rattle.whole.specs.Choice.{if◌then◌otherwise◌}
use Rattle.line.specs.declared.lent.LineAnswer.{LineAnswer}
use Rattle.std.specs.Prelude.{Option, None, Some}
use Rattle.std.specs.Option.{unwrap_or}
use Rattle.line.specs.Lent.{Placed, PlacedAs}
use Rattle.text.specs.Writing.{over}
use Rattle.line.specs.Writing.{without_room}
use Rattle.text.proofs.Overs.{over_start, over_more}

pub placed : (number : ℕ) (text out out' : List ℕ) (wrote : ℕ) → wrote ≡ length text → wrote ≤ length out → out' ≡ text ++ drop (length text) out
    → PlacedAs number text out out' (Some (record { code = number; wrote = wrote }))
placed number text out out' wrote n h e =
    rw (le-leb (length text) (length out) (omega arith)) (ap (λ (k : ℕ). Some (record { code = number; wrote = k })) n, e)

pub not-placed : (number : ℕ) (text out : List ℕ) (x : Option LineAnswer) → x ≡ None → length out < length text → PlacedAs number text out out x
not-placed number text out x e h = rw (e, lt-leb (length text) (length out) h) (refl, refl)

four_long : (w x y z : List ℕ) → length (w ++ x ++ y ++ z) ≡ length w + length x + length y + length z
four_long w x y z = rw (length-append (w ++ x ++ y) z, length-append (w ++ x) y, length-append w x)

-- four texts, each written where the one before it ended
pub record Four (w x y z out out' : List ℕ) (end : ℕ) : Type 0 where
  pub first : List ℕ
  pub second : List ℕ
  pub third : List ℕ
  pub at₁ : ℕ
  pub at₂ : ℕ
  pub at₃ : ℕ
  pub first_is : first ≡ over out 0 w
  pub second_is : second ≡ over first at₁ x
  pub third_is : third ≡ over second at₂ y
  pub fourth_is : out' ≡ over third at₃ z
  pub at₁-is : at₁ ≡ length w
  pub at₂-is : at₂ ≡ at₁ + length x
  pub at₃-is : at₃ ≡ at₂ + length y
  pub end_is : end ≡ at₃ + length z
  pub fits : end ≤ length out

pub placed_four : (number : ℕ) {w x y z out out' : List ℕ} {end : ℕ} → Four w x y z out out' end
    → PlacedAs number (w ++ x ++ y ++ z) out out' (Some (record { code = number; wrote = end }))
placed_four number {w} {x} {y} {z} {out} {out'} {end} f =
    let one : f.first ≡ w ++ drop (length w) out = f.first_is ∙ over_start w out in
    let two : f.second ≡ (w ++ x) ++ drop (length (w ++ x)) out = f.second_is ∙ over_more w x out f.first f.at₁ f.at₁-is one in
    let at-two : f.at₂ ≡ length (w ++ x) = omega (arith, f.at₂-is, f.at₁-is, length-append w x) in
    let three : f.third ≡ (w ++ x ++ y) ++ drop (length (w ++ x ++ y)) out = f.third_is ∙ over_more (w ++ x) y out f.second f.at₂ at-two two in
    let at-three : f.at₃ ≡ length (w ++ x ++ y) = omega (arith, f.at₃-is, at-two, length-append (w ++ x) y) in
    placed number (w ++ x ++ y ++ z) out out' end
    (omega (arith, f.end_is, f.at₃-is, f.at₂-is, f.at₁-is, four_long w x y z))
    f.fits
    (f.fourth_is ∙ over_more (w ++ x ++ y) z out f.third f.at₃ at-three three)

pub not_placed_four : (number : ℕ) (w x y z out : List ℕ) (a : Option LineAnswer) → a ≡ None → length out < length w + length x + length y + length z → PlacedAs number (w ++ x ++ y ++ z) out out a
not_placed_four number w x y z out a e h = not-placed number (w ++ x ++ y ++ z) out a e (omega (arith, four_long w x y z))

-- what is written lies within the buffer
pub placed-within : (number : ℕ) (text out out' : List ℕ) (x : LineAnswer) → Placed number text out out' x → x.wrote ≤ length out
placed-within number text out out' x = by (leb (length text) (length out)) refl
  where
    by : (t : Bool) → leb (length text) (length out) ≡ t
        → (if t then (x ≡ record { code = number; wrote = length text }) × (out' ≡ text ++ drop (length text) out) otherwise (x ≡ without_room) × (out' ≡ out)) → x.wrote ≤ length out
    by true e (p, q) = omega (arith, ap (λ (a : LineAnswer). a.wrote) p, leb-true (length text) (length out) e)
    by false e (p, q) = omega (arith, ap (λ (a : LineAnswer). a.wrote) p)

-- the number where there was no room
pub placed-or-short : (number : ℕ) (text out out' : List ℕ) (x : Option LineAnswer) → PlacedAs number text out out' x → Placed number text out out' (unwrap_or x without_room)
placed-or-short number text out out' x = by (leb (length text) (length out))
  where
    by : (t : Bool) → (if t then (x ≡ Some (record { code = number; wrote = length text })) × (out' ≡ text ++ drop (length text) out) otherwise (x ≡ None) × (out' ≡ out))
        → (if t then (unwrap_or x without_room ≡ record { code = number; wrote = length text }) × (out' ≡ text ++ drop (length text) out) otherwise (unwrap_or x without_room ≡ without_room) × (out' ≡ out))
    by true (p, q) = (ap (λ (y : Option LineAnswer). unwrap_or y without_room) p, q)
    by false (p, q) = (ap (λ (y : Option LineAnswer). unwrap_or y without_room) p, q)
