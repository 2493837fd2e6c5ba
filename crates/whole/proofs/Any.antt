-- "Any of" as code writes it, from the left, and what "any of" and "each of" a list say of a member.
use mathlib.Core.Path.{◌≡◌, refl}
use mathlib.Core.Bool.{Bool, true, false, true≢false, false≢true, ◌||◌}
use mathlib.Core.List.{List, [], ◌∷◌, map}
use Rattle.std.specs.List.{list_any, list_all}
use Rattle.whole.proofs.Choice.{and_true}

abbrev pub ors : Bool → List Bool → Bool
ors a [] = a
ors a (b ∷ bs) = ors (a || b) bs

-- a | b | c is "any of" a, b, c
pub from_left : (a : Bool) (bs : List Bool) → ors a bs ≡ (a || list_any (λ (b : Bool). b) bs)
from_left true [] = refl
from_left false [] = refl
from_left true (b ∷ bs) = from_left true bs
from_left false (b ∷ bs) = from_left b bs

-- where none passes, the first does not and none of the others does
pub or_false : (a b : Bool) → (a || b) ≡ false → (a ≡ false) × (b ≡ false)
or_false true b e = absurd (true≢false e)
or_false false b e = (refl, e)

-- ---- a fact of every member of a list, by one test over the list
pub data Member {A : Type 0} (x : A) : List A → Type 0 where
  here : {xs : List A} → Member x (x ∷ xs)
  there : {y : A} {xs : List A} → Member x xs → Member x (y ∷ xs)

pub of_every : {A : Type 0} (test : A → Bool) (x : A) (xs : List A) → Member x xs → list_all test xs ≡ true → test x ≡ true
of_every {A = A} test x [] x3 e = elim x3 [ ]
of_every test x (y ∷ xs) here e = (and_true (test x) (list_all test xs) e).0
of_every test x (y ∷ xs) (there m) e = of_every test x xs m (and_true (test y) (list_all test xs) e).1

-- where no member passes, this one does not
pub of_none : {A : Type 0} (test : A → Bool) (x : A) (xs : List A) → Member x xs → list_any test xs ≡ false → test x ≡ false
of_none {A = A} test x [] x3 e = elim x3 [ ]
of_none test x (y ∷ xs) here e = (or_false (test x) (list_any test xs) e).0
of_none test x (y ∷ xs) (there m) e = of_none test x xs m (or_false (test y) (list_any test xs) e).1

-- where some member passes, there is one
pub of_any : {A : Type 0} (test : A → Bool) (xs : List A) → list_any test xs ≡ true → (x : A) × Member x xs × (test x ≡ true)
of_any test [] e = absurd (false≢true e)
of_any {A} test (x ∷ xs) e = by (test x) refl e (λ e. of_any test xs e)
  where
    by : (t : Bool) → test x ≡ t → (t || list_any test xs) ≡ true → (list_any test xs ≡ true → (y : A) × Member y xs × (test y ≡ true)) → (y : A) × Member y (x ∷ xs) × (test y ≡ true)
    by true p e f = (x, here, p)
    by false p e f = ((f e).0, there (f e).1, (f e).2)

-- two functions that agree over the list agree at each member
pub of_map : {A B : Type 0} (f g : A → B) (x : A) (xs : List A) → Member x xs → map f xs ≡ map g xs → f x ≡ g x
of_map {A = A} {B = B} f g x [] x3 e = elim x3 [ ]
of_map f g x (y ∷ xs) here e = cc
of_map f g x (y ∷ xs) (there m) e = of_map f g x xs m (cc)
