use Prim.Native.Nat.{ℕ, ◌*◌, ◌≤◌}
use native.Mathlib.Omega.{arith}
use lib.IntN.{pos, ◌-ℤ◌}
use mir.Syntax.{w64}
use mir.Val.{SFits}
use mir.Facts.{to_z_pos, to_z-of_z}
use Rattle.whole.proofs.Size.{difference-fits}
use Rattle.whole.proofs.Machine.{back}
use Rattle.quantity.specs.Quantities.{largest_ratio}
use Rattle.law.specs.declared.subrange.Form.{Form}
use Rattle.deviation.specs.declared.places.Places.{Places}
use Rattle.deviation.specs.Limits.{fine, Limited}
use Rattle.deviation.specs.Working.{deviation, Wr}
use Rattle.deviation.proofs.Sized.{deviation-size}
use Rattle.deviation.proofs.working.wr.Goals as goal

fits : (form : Form) (k : Places) → Limited form k → (w : ℕ) → w ≤ largest_ratio → SFits w64 (pos (fine * w) -ℤ deviation form k w)
fits form k l w h = difference-fits (pos (fine * w)) (deviation form k w) (omega (arith, deviation-size form k l w h))

pub overflow_sub-result : goal.overflow_sub-result
overflow_sub-result c =
    rw (to_z_pos w64 {n = fine * c.args.w.0} (omega (arith, c.requires.1)), back c.deviation.result c.deviation.type_inv, c.deviation.ensures)
    (fits c.args.form c.args.k c.requires.0 c.args.w.0 c.requires.1)

pub returns : goal.returns
unfolding Wr
returns c =
    rw (to_z_pos w64 {n = fine * c.args.w.0} (omega (arith, c.requires.1)), back c.deviation.result c.deviation.type_inv, c.deviation.ensures, to_z-of_z (fits c.args.form c.args.k c.requires.0 c.args.w.0 c.requires.1))
