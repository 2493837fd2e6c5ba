-- What an answer to a given certificate says, and that no two answers state the same.
use Rattle.std.specs.Prelude.{Err, Ok, Result}
use mathlib.Core.Path.{◌≡◌, sym, ◌∙◌, ap}
use mathlib.Core.Bool.{true, not}
use mathlib.Core.List.{[]}
use Rattle.std.specs.Option.{unwrap_or}
use Prim.Native.Nat.{ℕ}
use borrow.Author.Tests.{not-false}
use native.Mathlib.Omega.{arith}
use Rattle.quantity.specs.Quantities.{largest_resistance}
use Rattle.quantity.specs.Outcomes.{Outcome, number_given, Follows}
use Rattle.quantity.proofs.Outcomes.{one-named, not-answered, one-refusal, passed}
use Rattle.law.specs.declared.laws.Law.TheVariants.{Curve}
use Rattle.law.specs.Subranges.{law_named, subrange_named}
use Rattle.quantity.specs.declared.resistance.Ratio.{Ratio}
use Rattle.certificate.specs.declared.record.Record.{Record}
use Rattle.certificate.specs.declared.resistances.Pair.{Pair}
use Rattle.certificate.specs.declared.soundness.Given.{Given}
use Rattle.certificate.specs.declared.soundness.Certificate.{Certificate}
use Rattle.quantity.specs.declared.refusal.Refusal.{Refusal}
use Rattle.certificate.specs.Certificate.{LawAndPlaces, no_places, held, stated, sound, sound_tests, given_by, given_rule}
use Rattle.certificate.specs.Record.{record_of, record_rule}
use Rattle.certificate.specs.Resistances.{resistances_of_up_to, resistances_rule_up_to, resistances_rule}

-- a certificate that passes 7 is sound
pub sound_passed : (k : Certificate) → number_given (sound_tests k) ≡ 0 → sound k ≡ true
sound_passed k e = not-false (sound k) (passed (not (sound k)) 7 [] (omega arith) e).0

-- ---- one answer
pub held_unique : (k k' : Certificate) → held k ≡ held k' → k ≡ k'
held_unique k k' e = ap (λ (a : LawAndPlaces). record { law = unwrap_or a.law Curve; places = a.places }) e

stated_unique : (x y : Result Certificate Refusal) → stated x ≡ stated y → x ≡ y
stated_unique (Ok k) (Ok k') e = ap Ok (held_unique k k' (ap (λ (o : Outcome LawAndPlaces). o.answer) e))
stated_unique (Ok k) (Err why) e = absurd (not-answered no_places (held k) why e)
stated_unique (Err why) (Ok k) e = absurd (not-answered no_places (held k) why (sym e))
stated_unique (Err v) (Err w) e = ap Err (one-refusal no_places v w e)

pub one_given : (given : Given) (x y : Result Certificate Refusal) → Follows (given_rule given) (stated x) → Follows (given_rule given) (stated y) → x ≡ y
one_given given x y h i =
    stated_unique x y (one-named no_places (law_named given.law.0) (λ law. given_by law given) (λ law a b p q. p ∙ sym q) (stated x) (stated y) h i)

pub record_unique : (ratios : Record Ratio) (o o' : Outcome LawAndPlaces) → Follows (record_rule ratios) o → Follows (record_rule ratios) o' → o ≡ o'
record_unique ratios = one-named no_places (subrange_named ratios.subrange.0) (λ s. record_of s ratios) (λ s a b p q. p ∙ sym q)

pub one_of_record : (ratios : Record Ratio) (x y : Result Certificate Refusal) → Follows (record_rule ratios) (stated x) → Follows (record_rule ratios) (stated y) → x ≡ y
one_of_record ratios x y h i = stated_unique x y (record_unique ratios (stated x) (stated y) h i)

pub resistances_unique : (largest : ℕ) (resistances : Record Pair) (o o' : Outcome LawAndPlaces) → Follows (resistances_rule_up_to largest resistances) o → Follows (resistances_rule_up_to largest resistances) o' → o ≡ o'
resistances_unique largest resistances = one-named no_places (subrange_named resistances.subrange.0) (λ s. resistances_of_up_to largest s resistances) (λ s a b p q. p ∙ sym q)

pub one_of_resistances : (resistances : Record Pair) (x y : Result Certificate Refusal) → Follows (resistances_rule resistances) (stated x) → Follows (resistances_rule resistances) (stated y) → x ≡ y
one_of_resistances resistances x y h i = stated_unique x y (resistances_unique largest_resistance resistances (stated x) (stated y) h i)
