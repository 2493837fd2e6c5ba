-- The bench cards hold: a test that the checker computes over the whole table, and that a card which passes it holds.
use mathlib.Core.Path.{◌≡◌, refl, sym, ◌∙◌, ap, ap₂}
use mathlib.Core.Bool.{Bool, true, false, false≢true, ◌&&◌, not}
use mathlib.Core.List.{List, [], ◌∷◌}
use Rattle.std.specs.Prelude.{Option, None, Some}
use Prim.Native.Nat.{ℕ}
use native.Mathlib.Omega.{arith}
use borrow.Author.Tests.{eqb-true, eqb-false, not-true}
use lib.Dec.{eqb}
use Rattle.std.specs.Ordering.{int_eq}
use Rattle.std.proofs.lemmas.Bool.Decides.{Decides-int_eq}
use Rattle.whole.proofs.Choice.{and_true}
use Rattle.exact.specs.Polynomial.{rounded}
use Rattle.quantity.specs.Quantities.{is_reading, is_divisor}
use Rattle.quantity.specs.Outcomes.{answered, number_given, Follows, if_named}
use Rattle.quantity.specs.Ratios.{ratio_rule}
use Rattle.quantity.proofs.Outcomes.{follows-answer, follows-refusal, answer-follows}
use Rattle.quantity.proofs.Ratios.{ratio_passed}
use Rattle.reference.specs.Reference.{working}
use Rattle.curve.specs.Curve as curve
use Rattle.law.specs.declared.laws.Law.{Law}
use Rattle.law.specs.declared.laws.Law.TheVariants.{Curve, Scale}
use Rattle.law.specs.declared.subrange.Subrange.{Subrange}
use Rattle.law.specs.Subranges.{subrange_named, law_name, law_named}
use Rattle.law.specs.Answers.{no_step}
use Rattle.law.proofs.Subranges.{every_subrange, names_law}
use Rattle.deviation.specs.declared.places.Places.{Places}
use Rattle.deviation.specs.Limits.{x, δ, keeps}
use Rattle.fit.specs.Fit.{◌·◌, ◌÷◌, beyond}
use Rattle.quantity.specs.declared.resistance.Ratio.{Ratio}
use Rattle.certificate.specs.declared.record.Record.{Record}
use Rattle.certificate.specs.declared.soundness.Given.{Given}
use Rattle.certificate.specs.Certificate.{certificate_of, sound, LawAndPlaces, no_places}
use Rattle.certificate.specs.Record.{ratio_above, cell_missing, purity_cell_missing, impure, deviates, fitted, made, record_of}
use Rattle.deviation.specs.Working.{plain_deviation, has_d_term, z, d_term, deviation, Wr}
use Rattle.reading.specs.Reading.{read_ratio, read_certificate}
use Rattle.reading.proofs.LeastRatio.{reads-resistances}
use Rattle.reading.proofs.Tests.{step_test, step-passes, refusal_test, refusal_passes}
use Rattle.cards.specs.Cards.{Reads, step, number, read_by, Gives, places, given_by, places_of, Card, works, reads, gives, Holds, cards, Each, CardsHold}

-- ---- two laws are the same where their names are
abbrev name_if : Option Law → ℕ
name_if None = 0
name_if (Some law) = law_name law

has-name : (law : Law) → 0 ≡ law_name law → ⊥
has-name Curve e = omega (arith, e)
has-name (Scale s) e =
    eqb-false (law_name (Scale s)) 0 (not-true (eqb (law_name (Scale s)) 0) (every_subrange (λ (s : Subrange). not (eqb (law_name (Scale s)) 0)) refl s)) (sym e)

same-law : (p q : Option Law) → name_if p ≡ name_if q → p ≡ q
same-law None None e = refl
same-law None (Some law) e = absurd (has-name law e)
same-law (Some law) None e = absurd (has-name law (sym e))
same-law (Some law) (Some law') e = sym (names_law law) ∙ ap law_named e ∙ names_law law'

-- ---- what a record gives
abbrev same_places : Places → Places → Bool
same_places p q = (int_eq p.a q.a && int_eq p.b q.b) && ((int_eq p.c q.c && int_eq p.d q.d) && eqb p.wal.0 q.wal.0)

is_same_places : (p q : Places) → same_places p q ≡ true → p ≡ q
is_same_places p q e =
    let (low, high) = and_true (int_eq p.a q.a && int_eq p.b q.b) ((int_eq p.c q.c && int_eq p.d q.d) && eqb p.wal.0 q.wal.0) e in
    let (a, b) = and_true (int_eq p.a q.a) (int_eq p.b q.b) low in
    let (cd, wal) = and_true (int_eq p.c q.c && int_eq p.d q.d) (eqb p.wal.0 q.wal.0) high in
    let (c, d) = and_true (int_eq p.c q.c) (int_eq p.d q.d) cd in
    let fields : places_of p.a p.b p.c p.d p.wal.0 ≡ q = rw ((Decides-int_eq p.a q.a).0 a, (Decides-int_eq p.b q.b).0 b, (Decides-int_eq p.c q.c).0 c, (Decides-int_eq p.d q.d).0 d, eqb-true p.wal.0 q.wal.0 wal) refl in
    fields

-- by the subrange that the record names, and the law of the same name
abbrev record_test : Option Subrange → Option Law → Record Ratio → Gives → Bool
record_test None law ratios x = false
record_test (Some s) law ratios (places p) =
    eqb (number_given (record_of s ratios).tests) 0 && (eqb (name_if law) (law_name (Scale s)) && same_places p (made s ratios).places)
record_test (Some s) law ratios (number n) = not (eqb n 0) && eqb (number_given (record_of s ratios).tests) n

record_passes : (named : Option Subrange) (law : Option Law) (ratios : Record Ratio) (x : Gives) → record_test named law ratios x ≡ true → Follows (if_named no_places named (λ s. record_of s ratios)) (given_by law x)
record_passes None law ratios x e = absurd (false≢true e)
record_passes (Some s) law ratios (places p) e =
    let rule = record_of s ratios in
    let (given, head) = and_true (eqb (number_given rule.tests) 0) (eqb (name_if law) (law_name (Scale s)) && same_places p (made s ratios).places) e in
    let (name, fields) = and_true (eqb (name_if law) (law_name (Scale s))) (same_places p (made s ratios).places) head in
    follows-answer rule (eqb-true (number_given rule.tests) 0 given) _
    (ap₂ {C = LawAndPlaces} (λ (l : Option Law) (q : Places). record { law = l; places = q }) (same-law law (Some (Scale s)) (eqb-true (name_if law) (law_name (Scale s)) name)) (is_same_places p (made s ratios).places fields))
record_passes (Some s) law ratios (number n) e =
    let rule = record_of s ratios in
    let (Some-number, given) = and_true (not (eqb n 0)) (eqb (number_given rule.tests) n) e in
    follows-refusal rule n (not-true (eqb n 0) Some-number) (eqb-true (number_given rule.tests) n given)

-- ---- what a ratio reads
abbrev ratio_test : Reads → Law → Places → ℕ → Bool
ratio_test (step t) law k w = step_test law k w t
ratio_test (number n) law k w = refusal_test law k w n

ratio-passes : (o : Reads) (law : Law) (k : Places) (w : ℕ) → ratio_test o law k w ≡ true → Follows (read_ratio law k w) (read_by (Some law) o)
ratio-passes (step t) law k w e = step-passes law k w t e
ratio-passes (number n) law k w e = refusal_passes law k w n e

abbrev named_test : Option Law → Given → ℕ → Reads → Bool
named_test None k w o = false
named_test (Some law) k w o = sound (certificate_of law k) && ratio_test o law k.places w

named-passes : (law : Option Law) (k : Given) (w : ℕ) (o : Reads) → named_test law k w o ≡ true → (r r0 : ℕ) → Follows (ratio_rule r r0) (answered w)
    → Follows (if_named no_step law (λ law. read_certificate (certificate_of law k) r r0)) (read_by law o)
named-passes None k w o e r r0 has = absurd (false≢true e)
named-passes (Some law) k w o e r r0 has =
    let both = and_true (sound (certificate_of law k)) (ratio_test o law k.places w) e in
    let a = answer-follows (ratio_rule r r0) (answered w) refl has in
    let p = ratio_passed r r0 a.0 in
    let resistances : (is_reading r && is_divisor r0) ≡ true = rw (p.reading, p.divisor) in
    reads-resistances (certificate_of law k) r r0 both.0 resistances p.within (read_by (Some law) o) (rw a.1 at (ratio-passes o law k.places w both.1))

-- ---- the test of a card
abbrev passes : Card → Bool
passes (works t value) = int_eq (working t) value
passes (reads k w o) = named_test (law_named k.law.0) k w o
passes (gives ratios o) = record_test (subrange_named ratios.subrange.0) (law_named ratios.subrange.0) ratios o

holds : (card : Card) → passes card ≡ true → Holds card
holds (works t value) e = (Decides-int_eq (working t) value).0 e
holds (reads k w o) e = named-passes (law_named k.law.0) k w o e
holds (gives ratios o) e = record_passes (subrange_named ratios.subrange.0) (law_named ratios.subrange.0) ratios o e

abbrev all_pass : List Card → Bool
all_pass [] = true
all_pass (card ∷ more) = passes card && all_pass more

each_holds : (table : List Card) → all_pass table ≡ true → Each table
each_holds [] e = tt
each_holds (card ∷ more) e =
    let both = and_true (passes card) (all_pass more) e in
    (holds card both.0, each_holds more both.1)

-- the checker computes the test over the table
pub cards_hold : CardsHold
unfolding working rounded curve.exact curve.quadratic curve.quartic curve.units Wr deviation plain_deviation d_term has_d_term z x δ keeps
    ratio_above cell_missing purity_cell_missing impure deviates fitted beyond ◌·◌ ◌÷◌
cards_hold = each_holds cards refl
