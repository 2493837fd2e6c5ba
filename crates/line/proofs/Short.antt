-- How short an answer is, for lists of every kind.
use mathlib.Core.Path.{◌≡◌, refl, sym, ap, ◌∙◌}
use mathlib.Core.Bool.{Bool, true, false}
use mathlib.Core.List.{List, ◌∷◌}
use Rattle.std.specs.Prelude.{Option, None, Some}
use Prim.Native.Nat.{ℕ, suc, ◌+◌, ◌<◌, ◌≤◌, ◌^◌}
use Prim.Native.String.{String}
use native.Mathlib.Omega.{arith}
use lib.Dec.{eqb}
use lib.IntN.{ℤ, pos, negsuc, nat_abs}
use lib.ListN.{length}
use borrow.Author.Tests.{eqb-true}
use Rattle.whole.specs.Choice.{if◌then◌otherwise◌}
use Rattle.quantity.specs.Outcomes.{Outcome, number_given, Rule, Follows, if_named}
use Rattle.quantity.proofs.Outcomes.{answer-follows, code-is-given, most, number_most}
use Rattle.text.specs.Decimal.{signed_decimal}
use Rattle.text.specs.declared.columns.Holds.{Holds}
use Rattle.text.specs.declared.columns.Holds.TheVariants.{Id, Name, Letter}
use Rattle.text.specs.Columns.{Column, ◌holds◌, rule_of, id_byte, longest_id, longest_name, well_formed, field_at}
use Rattle.text.specs.Fields as fields
use Rattle.text.proofs.Decimals.{few_digits}
use Rattle.text.proofs.Names.{named, sized-short}
use Rattle.line.specs.Kinds.{Kind, blanks}
use Rattle.line.specs.Writing.{commaed}
use Rattle.line.proofs.Unique.{Small}

-- an id, and a second field of no more bytes than a name
pub names_short : (what : Holds) → ((s : List ℕ) → rule_of what s ≡ true → length s ≤ longest_name) → (t t' : String) (c : Column) (cs : List Column) (line : List ℕ)
    → well_formed (t holds Id ∷ t' holds what ∷ c ∷ cs) line ≡ true → length (field_at 0 line) + length (field_at 1 line) ≤ 24
names_short what short t t' c cs line w =
    let n = named (t holds Id) (t' holds what) c cs line w in
    omega (arith, sized-short longest_id id_byte (field_at 0 line) n.rule-one, short (field_at 1 line) n.rule-two)

pub name-short : (s : List ℕ) → rule_of Name s ≡ true → length s ≤ longest_name
name-short s e = sized-short longest_name fields.small s e

pub letter-short : (s : List ℕ) → rule_of Letter s ≡ true → length s ≤ longest_name
letter-short s e = omega (arith, sized-short 1 fields.letter s e)

-- a number of either sign: its digits and a minus
pub signed_few : (k : ℕ) (z : ℤ) → nat_abs z < 10 ^ suc k → length (signed_decimal z) ≤ suc k + 1
signed_few k (pos n) h = omega (arith, few_digits k n h)
signed_few k (negsuc n) h = omega (arith, few_digits k (suc n) h)

-- a row's outcome, by the rule of what its name names: own columns are empty or those of an answer that passed its tests
module _ (kind : Kind) (bytes : ℕ) {B : Type 0} (zeros : kind.Answer) (found : Option B) (rule : B → Rule kind.Answer)
    (few : (b : B) → most 9 (rule b).tests ≡ true) (blank : length (commaed (blanks kind.own)) ≤ bytes)
    (short : (b : B) → found ≡ Some b → (a : kind.Answer) → number_given (rule b).tests ≡ 0 → (rule b).Answer a → length (commaed (kind.written a)) ≤ bytes)
    (o : Outcome kind.Answer) where
  one-digit : (n : Option B) → Follows (if_named zeros n rule) o → o.code ≤ 9
  one-digit None h = omega (arith, ap (λ (o : Outcome kind.Answer). o.code) h)
  one-digit (Some b) h = omega (arith, code-is-given (rule b) o h, number_most 9 (rule b).tests (few b))

  own-short : (n : Option B) → found ≡ n → o.code ≡ 0 → Follows (if_named zeros n rule) o → length (commaed (kind.written o.answer)) ≤ bytes
  own-short None e z h = absurd (let c : ◌≡◌ {A = ℕ} 3 0 = sym (ap (λ (o : Outcome kind.Answer). o.code) h) ∙ z in omega arith)
  own-short (Some b) e z h =
      let a = answer-follows (rule b) o z h in
      short b e o.answer a.0 a.1

  pub small_row : Follows (if_named zeros found rule) o → Small kind bytes o
  small_row h = record { code = one-digit found h; own = by (eqb o.code 0) refl }
    where
      by : (answered : Bool) → eqb o.code 0 ≡ answered → length (commaed (if answered then kind.written o.answer otherwise blanks kind.own)) ≤ bytes
      by true e = own-short found refl (eqb-true o.code 0 e) h
      by false e = blank
