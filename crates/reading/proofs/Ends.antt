-- The ends of the scale: what the range of a subrange is, that it lies within the scale, and that Wr goes from under it to over it as the ratio goes from 0 to 4.4.
use mathlib.Core.Path.{◌≡◌, refl, sym, subst}
use mathlib.Core.Bool.{true, ◌&&◌}
use mathlib.Core.List.{List}
use Prim.Native.Nat.{◌*◌}
use native.Mathlib.Omega.{arith}
use lib.IntN.{ℤ, pos}
use lib.Signed.{le_z, ◌≤ℤ◌, ◌<ℤ◌}
use Rattle.whole.proofs.Choice.{and_true}
use Rattle.whole.proofs.Machine.{le_yes}
use Rattle.whole.proofs.Parts.{ints, abs_parts, sub_parts}
use Rattle.whole.proofs.Rising as rising
use Rattle.quantity.specs.Quantities.{largest_ratio}
use Rattle.quantity.specs.Outcomes.{Outcome, Test, Follows}
use Rattle.law.specs.declared.subrange.Form.{Form}
use Rattle.law.specs.declared.subrange.Subrange.{Subrange}
use Rattle.law.specs.declared.laws.Law.{Law}
use Rattle.law.specs.declared.laws.Law.TheVariants.{Curve, Scale}
use Rattle.law.specs.Subranges.{Inverse, of_reference, carried}
use Rattle.law.specs.Ranges.{Range, by_largest}
use Rattle.law.specs.Answers.{LawAndStep, read_by}
use Rattle.law.proofs.Subranges.{every_subrange, subrange_fact}
use Rattle.reference.specs.Reference.{working, last, past_last}
use Rattle.reference.proofs.Rising.{one_up, between_ends}
use Rattle.reference.proofs.Values.{at_zero, at_past_last}
use Rattle.deviation.specs.declared.places.Places.{Places}
use Rattle.deviation.specs.Limits.{fine, Limited}
use Rattle.deviation.specs.Working.{deviation, Wr}
use Rattle.deviation.proofs.Sized.{deviation-size}
use Rattle.certificate.specs.Certificate.{sound}
use Rattle.certificate.proofs.Sound.{sound_limited}
use Rattle.reading.specs.Laws.{scale_range, range_of, Keeps}

-- ---- the range of a subrange
pub bottom_is : (s : Subrange) → (carried s).bottom ≡ pos 0
bottom_is = subrange_fact (λ (s : Subrange). (carried s).bottom) (λ (s : Subrange). pos 0) refl

pub tops : (s : Subrange) → (pos 0 ≤ℤ (carried s).top) × ((carried s).top ≤ℤ last)
tops s =
    let both = and_true (le_z (pos 0) (carried s).top) (le_z (carried s).top last) (every_subrange (λ (s : Subrange). le_z (pos 0) (carried s).top && le_z (carried s).top last) refl s) in
    (le_yes refl both.0, le_yes refl both.1)

by_reference : (inverse : Inverse) (bottom top : ℤ) → scale_range inverse bottom top ≡ by_largest working bottom top
by_reference of_reference bottom top = refl

pub range_is : (s : Subrange) → range_of (Scale s) ≡ by_largest working (pos 0) (carried s).top
range_is s = subst (λ (bottom : ℤ). scale_range (carried s).inverse bottom (carried s).top ≡ by_largest working (pos 0) (carried s).top) (sym (bottom_is s)) (by_reference (carried s).inverse (pos 0) (carried s).top)

range-ends : (inverse : Inverse) (bottom top : ℤ) → ((scale_range inverse bottom top).bottom ≡ bottom) × ((scale_range inverse bottom top).top ≡ top)
range-ends of_reference bottom top = (refl, refl)

pub range-bottom : (s : Subrange) → (range_of (Scale s)).bottom ≡ (carried s).bottom
range-bottom s = (range-ends (carried s).inverse (carried s).bottom (carried s).top).0

pub range-top : (s : Subrange) → (range_of (Scale s)).top ≡ (carried s).top
range-top s = (range-ends (carried s).inverse (carried s).bottom (carried s).top).1

-- what is read by the largest step of the scale is read by the subrange's own range, and the other way
module _ (earlier : List Test) (s : Subrange) (value : ℤ) (o : Outcome LawAndStep) where
  pub by-subrange : Follows (read_by earlier (Scale s) (by_largest working (pos 0) (carried s).top) value) o → Follows (read_by earlier (Scale s) (range_of (Scale s)) value) o
  by-subrange h = subst (λ (range : Range). Follows (read_by earlier (Scale s) range value) o) (sym (range_is s)) h

-- the places of a sound certificate keep what its law asks of them
pub sound-keeps : (law : Law) (k : Places) → sound (record { law = law; places = k }) ≡ true → Keeps law k
sound-keeps Curve k e = tt
sound-keeps (Scale s) k e = sound_limited s k e

-- ---- the working values, and Wr at both ends
pub not_falling : (a b : ℤ) → pos 0 ≤ℤ a → a ≤ℤ b → b ≤ℤ past_last → working a ≤ℤ working b
not_falling = rising.not_falling working (pos 0) past_last one_up

module _ (form : Form) (k : Places) (l : Limited form k) (step : ℤ) (p : pos 0 ≤ℤ step) (q : step ≤ℤ last) where
  pub under_all : Wr form k 0 <ℤ working step
  unfolding Wr
  under_all =
      omega (ints, deviation-size form k l 0 (omega arith), abs_parts (deviation form k 0), sub_parts (pos (fine * 0)) (deviation form k 0), (between_ends step p (omega (ints, q))).0, at_zero)

  pub over-all : working step ≤ℤ Wr form k largest_ratio
  unfolding Wr
  over-all =
      omega (
        ints,
        deviation-size form k l largest_ratio (omega arith),
        abs_parts (deviation form k largest_ratio),
        sub_parts (pos (fine * largest_ratio)) (deviation form k largest_ratio),
        (between_ends step p (omega (ints, q))).1,
        at_past_last,
      )
