-- The fields joined by commas are the line, so the id and the law stand at its start, each with a comma after it.
use mathlib.Core.Path.{◌≡◌, refl, sym, ap, ◌∙◌}
use mathlib.Core.Bool.{Bool, true, false}
use mathlib.Core.List.{List, [], ◌∷◌}
use Prim.Native.Nat.{ℕ}
use Prim.Native.Char.{code}
use lib.Dec.{eqb}
use borrow.Author.Tests.{eqb-true}
use Rattle.whole.specs.Choice.{if◌then◌otherwise◌}
use Rattle.text.specs.Fields.{field, later, fields}
use Rattle.text.specs.Joined.{joined, FieldsJoined}

joined-byte : (b : ℕ) (f : List ℕ) (fs : List (List ℕ)) → joined ((b ∷ f) ∷ fs) ≡ b ∷ joined (f ∷ fs)
joined-byte b f [] = refl
joined-byte b f (g ∷ fs) = refl

pub fields-joined : FieldsJoined
fields-joined [] = refl
fields-joined (b ∷ s) = by (eqb b (code ",")) refl (fields-joined s)
  where
    by : (t : Bool) → eqb b (code ",") ≡ t → joined (fields s) ≡ s
        → joined ((if t then [] otherwise b ∷ field s) ∷ (if t then field s ∷ later s otherwise later s)) ≡ b ∷ s
    by true e h = ap (λ (l : List ℕ). code "," ∷ l) h ∙ ap (λ (a : ℕ). a ∷ s) (sym (eqb-true b (code ",") e))
    by false e h = joined-byte b (field s) (later s) ∙ ap (λ (l : List ℕ). b ∷ l) h
