use mathlib.Core.Path.{◌≡◌, sym, ◌∙◌}
use mathlib.Core.Bool.{true}
use Prim.Native.Nat.{ℕ, ◌≤◌}
use native.Mathlib.Omega.{arith}
use lib.IntN.{pos, ◌-ℤ◌}
use mir.Syntax.{w64}
use mir.Val.{SFits, to_z}
use mir.Facts.{to_z_pos, to_z-of_z}
use Rattle.whole.proofs.Size.{abs→fits, difference-fits}
use Rattle.whole.proofs.Machine.{back}
use Rattle.quantity.specs.Quantities.{largest_ratio}
use Rattle.law.specs.declared.subrange.Form.{Form}
use Rattle.deviation.specs.declared.places.Places.{Places}
use Rattle.deviation.specs.Limits.{Limited}
use Rattle.deviation.specs.Working.{has_d_term, z, d_term}
use Rattle.deviation.proofs.Sized.{aluminium, counted, z-size}
use Rattle.deviation.proofs.working.d_term.Goals as goal

-- two ratios up to 4.4 as signed numbers, and their difference
signed : (v w : ℕ) → v ≤ largest_ratio → w ≤ largest_ratio → to_z w64 w -ℤ to_z w64 v ≡ pos w -ℤ pos v
signed v w p q = rw (to_z_pos w64 {n = v} (omega arith), to_z_pos w64 {n = w} (omega arith))

fits : (v w : ℕ) → v ≤ largest_ratio → w ≤ largest_ratio → SFits w64 (pos w -ℤ pos v)
fits v w p q = difference-fits (pos w) (pos v) (omega arith)

within : (form : Form) (k : Places) (w : ℕ) → Limited form k → has_d_term form k w ≡ true → k.wal.0 ≤ largest_ratio
within form k w l known = (aluminium form k l (counted form k w known).0).1

pub overflow_cast-k : goal.overflow_cast-k
overflow_cast-k c = abs→fits _ (omega (arith, within c.args.form c.args.k c.args.w.0 c.requires.0 (sym c.has_d_term.ensures ∙ c.if-has_d_term.true)))

pub overflow_sub-w : goal.overflow_sub-w
overflow_sub-w c =
    let v = c.args.k.wal.0 in
    let w = c.args.w.0 in
    let small = within c.args.form c.args.k w c.requires.0 (sym c.has_d_term.ensures ∙ c.if-has_d_term.true) in
    rw (signed v w small c.requires.1) (fits v w small c.requires.1)

pub twice-requires : goal.twice-requires
unfolding z
twice-requires c =
    let v = c.args.k.wal.0 in
    let w = c.args.w.0 in
    let known : has_d_term c.args.form c.args.k w ≡ true = sym c.has_d_term.ensures ∙ c.if-has_d_term.true in
    let small = within c.args.form c.args.k w c.requires.0 known in
    let d-fits : SFits w64 c.args.k.d = abs→fits c.args.k.d (omega (arith, c.requires.0.small.d)) in
    rw (to_z-of_z d-fits, signed v w small c.requires.1, to_z-of_z (fits v w small c.requires.1))
    (c.requires.0.small.d, omega (arith, z-size c.args.form c.args.k c.requires.0 w c.requires.1 known))

pub returns-then-has_d_term : goal.returns-then-has_d_term
unfolding z d_term
returns-then-has_d_term c =
    let v = c.args.k.wal.0 in
    let w = c.args.w.0 in
    let known : has_d_term c.args.form c.args.k w ≡ true = sym c.has_d_term.ensures ∙ c.if-has_d_term.true in
    let small = within c.args.form c.args.k w c.requires.0 known in
    let d-fits : SFits w64 c.args.k.d = abs→fits c.args.k.d (omega (arith, c.requires.0.small.d)) in
    rw (known, back c.twice.result c.twice.type_inv, c.twice.ensures, to_z-of_z d-fits, signed v w small c.requires.1, to_z-of_z (fits v w small c.requires.1))

pub returns-else-has_d_term : goal.returns-else-has_d_term
unfolding d_term
returns-else-has_d_term c = rw (sym c.has_d_term.ensures ∙ c.if-has_d_term.false)
