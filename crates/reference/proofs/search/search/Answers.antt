use mathlib.Core.Path.{◌≡◌, refl, sym}
use mathlib.Core.Bool.{true, false}
use Prim.Native.Nat.{◌+◌}
use borrow.Author.Rules.{rules}
use lib.IntN.{pos, ◌+ℤ◌}
use lib.Signed.{le_z, ◌<ℤ◌}
use Rattle.whole.proofs.Parts.{ints}
use Rattle.whole.proofs.Machine.{yes_le, no_le, le_yes, le_no}
use Rattle.whole.proofs.Largest.{largest-by-next}
use Rattle.reference.specs.Reference.{working, last}
use Rattle.reference.proofs.Rising.{one_up}
use Rattle.reference.proofs.search.search.Goals as goal

pub last_passing-requires-clause-known : goal.last_passing-requires-clause-known
last_passing-requires-clause-known c =
    let low : true ≡ le_z (working (pos c.args.from)) c.args.value = sym (yes_le c.requires.from_bound.0) in
    let high : false ≡ le_z (working (pos c.args.to)) c.args.value = sym (no_le c.requires.from_bound.1) in
    search rules

-- neighbouring steps: the lower one is the largest
pub returns : goal.returns
returns c =
    let step = c.last_passing.result in
    let found = c.last_passing.ensures in
    let passed : true ≡ le_z (working (pos step)) c.args.value = search rules in
    let failed : false ≡ le_z (working (pos (step + 1))) c.args.value = search rules in
    let after : c.args.value <ℤ working (pos (step + 1)) = le_no failed refl in
    let next : pos (step + 1) ≡ pos step +ℤ pos 1 = refl in
    largest-by-next working (pos 0) last one_up c.args.value (pos step) (omega ints) (omega (ints, found.within, c.requires.from_lt_to)) (le_yes passed refl) (rw next at after)
