use mathlib.Core.Path.{◌≡◌, sym, ap, ◌∙◌, subst}
use mathlib.Core.List.{List, [], ◌∷◌, ◌++◌, append_assoc, append-nil}
use native.Mathlib.Omega.{arith}
use Prim.Native.Nat.{ℕ, ◌+◌, ◌≤◌}
use lib.ListN.{length}
use mir.Facts.{to_z-of_z}
use mir.Val.{SFits}
use mir.Syntax.{w64}
use Rattle.whole.specs.Text.{ascii}
use Rattle.text.specs.Decimal.{decimal, signed_decimal}
use Rattle.text.specs.Writing.{Added}
use Rattle.text.proofs.Adding.{added_more}
use Rattle.line.specs.Writing.{commaed}
use borrow.Author.Rules.{rules}
use Rattle.bench.proofs.certificates.add_places.Goals as goal

-- five texts with a comma after each, from the first on
five : (a b c d e : List ℕ) → ((((a ++ ascii ",") ++ (b ++ ascii ",")) ++ (c ++ ascii ",")) ++ (d ++ ascii ",")) ++ e ++ ascii "," ≡ commaed (a ∷ b ∷ c ∷ d ∷ e ∷ [])
five a b c d e =
    let A = a ++ ascii "," in
    let B = b ++ ascii "," in
    let C = c ++ ascii "," in
    let D = d ++ ascii "," in
    let E = e ++ ascii "," in
    append_assoc (((A ++ B) ++ C) ++ D) e (ascii ",")
    ∙ append_assoc ((A ++ B) ++ C) D E
    ∙ append_assoc (A ++ B) C (D ++ E)
    ∙ append_assoc A B (C ++ (D ++ E))
    ∙ ap (λ (l : List ℕ). A ++ (B ++ (C ++ (D ++ l)))) (sym (append-nil E))

pub returns : goal.returns
returns c =
    let known-a : SFits w64 c.args.k.a = search rules in
    let known-b : SFits w64 c.args.k.b = search rules in
    let known-c : SFits w64 c.args.k.c = search rules in
    let known-d : SFits w64 c.args.k.d = search rules in
    let before-number : (c.add_signed-d.result ≤ c.args.at + 88) × (length c.add_signed-d.new.out ≡ length c.args.out.now) × (c.args.at + 109 ≤ length c.args.out.now) = (
      omega (arith, c.add_signed-d.ensures.1, c.add_signed-c.ensures.1, c.add_signed-b.ensures.1, c.add_signed-a.ensures.1),
      omega (arith, c.add_signed-d.ensures.0.long, c.add_signed-c.ensures.0.long, c.add_signed-b.ensures.0.long, c.add_signed-a.ensures.0.long),
      c.requires,
    ) in
    let k = c.args.k in
    let written = added_more (added_more (added_more (added_more (added_more c.add_signed-a.ensures.0 c.add_signed-b.ensures.0) c.add_signed-c.ensures.0) c.add_signed-d.ensures.0) c.add_number-end.ensures.0) c.add.ensures in (
      subst (λ (t : List ℕ). Added c.args.out.now c.args.at t c.add.new.out c.add.result)
          (rw (to_z-of_z known-a, to_z-of_z known-b, to_z-of_z known-c, to_z-of_z known-d) (five (signed_decimal k.a) (signed_decimal k.b) (signed_decimal k.c) (signed_decimal k.d) (decimal k.wal.0))) written,
      omega (arith, c.add.ensures.end, c.add_number-end.ensures.1, before-number),
    )
