use native.Mathlib.Omega.{arith}
use mir.Facts.{to_z-of_z}
use Rattle.fit.proofs.Sizes as sizes
use Rattle.fit.proofs.q.Goals as goal

-- `fit::q` meets its contract.
pub over-requires : goal.over-requires
over-requires c = let p = c.args.p in
    rw (to_z-of_z (sizes.δ-fits p c.requires), to_z-of_z (sizes.x_fits p c.requires)) (omega (arith, sizes.δ-size p c.requires), c.requires.apart)
