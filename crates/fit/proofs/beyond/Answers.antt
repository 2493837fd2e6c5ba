use borrow.Author.Rules.{rules}
use mathlib.Core.Bool.{Bool}
use mathlib.Core.List.{[], ◌∷◌}
use lib.Dec.{ltb}
use lib.IntN.{ℤ, nat_abs}
use mir.Syntax.{w64}
use mir.Val.{SFits}
use mir.Facts.{to_z-of_z}
use Rattle.whole.proofs.Any.{from_left}
use Rattle.fit.specs.Fit.{beyond}
use Rattle.deviation.specs.Limits.{largest_coefficient}
use Rattle.fit.proofs.beyond.Goals as goal

pub returns : goal.returns
unfolding beyond
returns c =
    let a-known : SFits w64 c.args.k.a = search rules in
    let b-known : SFits w64 c.args.k.b = search rules in
    let c-known : SFits w64 c.args.k.c = search rules in
    let d-known : SFits w64 c.args.k.d = search rules in
    let k = c.args.k in
    let large : ℤ → Bool = λ (value : ℤ). ltb largest_coefficient (nat_abs value) in
    rw (c.too_large.ensures, to_z-of_z a-known, c.too_large-2.ensures, to_z-of_z b-known, c.too_large-3.ensures, to_z-of_z c-known, c.too_large-4.ensures, to_z-of_z d-known)
    (from_left (large k.a) (large k.b ∷ large k.c ∷ large k.d ∷ []))
