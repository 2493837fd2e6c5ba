-- The members of a table, the entry of a number, and an entry put at a place.
use mathlib.Core.Path.{◌≡◌, refl, sym, ◌∙◌}
use mathlib.Core.Bool.{Bool, true, false, false≢true, true≢false, ◌&&◌, ◌||◌, not}
use mathlib.Core.List.{List, [], ◌∷◌}
use Prim.Native.Nat.{ℕ, suc, ◌<◌}
use native.Mathlib.Omega.{arith}
use borrow.Author.Tests.{eqb-true, eqb-false, eq-eqb, ne_eqb}
use lib.Dec.{eqb}
use Rattle.std.specs.List.{list_any}
use Rattle.whole.specs.Choice.{if◌then◌otherwise◌}
use Rattle.whole.proofs.Any.{or_false}
use Rattle.entry.specs.declared.entry.Entry.{Entry}
use Rattle.entry.specs.Entry.{is_free, free}
use Rattle.register.specs.Table.{has, entry_of, put, count, twice, places}

-- ---- members
pub data Member (e : Entry) : List Entry → Type 0 where
  first : {es : List Entry} → Member e (e ∷ es)
  later : {f : Entry} {es : List Entry} → Member e es → Member e (f ∷ es)

-- where none passes a test, no member does
pub member_fails : (test : Entry → Bool) (es : List Entry) (e : Entry) → list_any test es ≡ false → Member e es → test e ≡ false
member_fails test es e = by es
  where
    by : (es : List Entry) → list_any test es ≡ false → Member e es → test e ≡ false
    by es h (first {es = rest}) = (or_false (test e) (list_any test rest) h).0
    by es h (later {f} {es = rest} m) = by rest (or_false (test f) (list_any test rest) h).1 m

-- where one does, some do
pub member_passes : (test : Entry → Bool) (es : List Entry) (e : Entry) → test e ≡ true → Member e es → list_any test es ≡ true
member_passes test es e h = by es
  where
    or_rest : (t : Bool) (rest : List Entry) → list_any test rest ≡ true → (t || list_any test rest) ≡ true
    or_rest true rest ih = refl
    or_rest false rest ih = ih

    by : (es : List Entry) → Member e es → list_any test es ≡ true
    by es (first {es = rest}) = rw h
    by es (later {f} {es = rest} m) = or_rest (test f) rest (by rest m)

-- where no member passes a test, none does
pub any_fails : (test : Entry → Bool) (es : List Entry) → ((e : Entry) → Member e es → test e ≡ false) → list_any test es ≡ false
any_fails test [] h = refl
any_fails test (e ∷ es) h = rw (h e first) (any_fails test es (λ f m. h f (later m)))

pub count_none : (test : Entry → Bool) (es : List Entry) → ((e : Entry) → Member e es → test e ≡ false) → count test es ≡ 0
count_none test [] h = refl
count_none test (e ∷ es) h = rw (h e first) (count_none test es (λ f m. h f (later m)))

pub count_same : (test test' : Entry → Bool) (es : List Entry) → ((e : Entry) → Member e es → test e ≡ test' e) → count test es ≡ count test' es
count_same test test' [] h = refl
count_same test test' (e ∷ es) h = rw (h e first, count_same test test' es (λ f m. h f (later m)))

-- ---- the entry of a number: a member that has it, or a free place where none has
pub data Sought (es : List Entry) (n : ℕ) (e : Entry) : Type 0 where
  there : Member e es → e.number.0 ≡ n → Sought es n e
  missing : e ≡ free → list_any (has n) es ≡ false → Sought es n e

pub sought : (es : List Entry) (n : ℕ) → Sought es n (entry_of es n)
sought [] n = missing refl refl
sought (e ∷ es) n = by (has n e) refl (sought es n)
  where
    by : (t : Bool) → has n e ≡ t → Sought es n (entry_of es n) → Sought (e ∷ es) n (if t then e otherwise entry_of es n)
    by true h s = there first (eqb-true e.number.0 n h)
    by false h (there m k) = there (later m) k
    by false h (missing f k) = missing f (rw (h) k)

pub entry_of_none : (es : List Entry) (n : ℕ) → list_any (has n) es ≡ false → entry_of es n ≡ free
entry_of_none es n h = by (sought es n)
  where
    by : Sought es n (entry_of es n) → entry_of es n ≡ free
    by (there m k) = absurd (eqb-false (entry_of es n).number.0 n (member_fails (has n) es (entry_of es n) h m) k)
    by (missing e k) = e

pub entry_there : (es : List Entry) (n : ℕ) → is_free (entry_of es n) ≡ false → (Member (entry_of es n) es) × ((entry_of es n).number.0 ≡ n)
entry_there es n h = by (sought es n)
  where
    by : Sought es n (entry_of es n) → (Member (entry_of es n) es) × ((entry_of es n).number.0 ≡ n)
    by (there m k) = (m, k)
    by (missing e k) = absurd (true≢false (rw e at h))

-- no two members have one number
pub not_twice_others : (e : Entry) (es : List Entry) → twice (e ∷ es) ≡ false → is_free e ≡ false → list_any (has e.number.0) es ≡ false
not_twice_others e es h f = rw f at (or_false (not (is_free e) && list_any (has e.number.0) es) (twice es) h).0

pub not_twice_rest : (e : Entry) (es : List Entry) → twice (e ∷ es) ≡ false → twice es ≡ false
not_twice_rest e es h = (or_false (not (is_free e) && list_any (has e.number.0) es) (twice es) h).1

pub eqb_false_turned : (m n : ℕ) → eqb m n ≡ false → eqb n m ≡ false
eqb_false_turned m n h = ne_eqb n m (λ e. eqb-false m n h (sym e))

-- so the entry of a member's number is that member
pub entry_of_member : (es : List Entry) (e : Entry) → twice es ≡ false → is_free e ≡ false → Member e es → entry_of es e.number.0 ≡ e
entry_of_member es e h f m = by es h m
  where
    other : (g : Entry) (rest : List Entry) → twice (g ∷ rest) ≡ false → Member e rest → (t : Bool) → is_free g ≡ t → has e.number.0 g ≡ false
    other g rest h m true z = ne_eqb g.number.0 e.number.0 (λ q. eqb-false e.number.0 0 f (sym q ∙ eqb-true g.number.0 0 z))
    other g rest h m false z = eqb_false_turned e.number.0 g.number.0 (member_fails (has g.number.0) rest e (not_twice_others g rest h z) m)

    by : (es : List Entry) → twice es ≡ false → Member e es → entry_of es e.number.0 ≡ e
    by es h (first {es = rest}) = rw (eq-eqb e.number.0 e.number.0 refl)
    by es h (later {f = g} {es = rest} m) = rw (other g rest h m (is_free g) refl) (by rest (not_twice_rest g rest h) m)

-- ---- an entry put at a place
-- a place is found, and nothing before it has the number that is asked for
pub entry_put : (es : List Entry) (k n : ℕ) (x : Entry) → x.number.0 ≡ n → list_any (has k) es ≡ true
    → ((e : Entry) → Member e es → has k e ≡ false → has n e ≡ false) → entry_of (put es k x) n ≡ x
entry_put [] k n x e h f = absurd (false≢true h)
entry_put (y ∷ ys) k n x e h f = by (has k y) refl (λ i. entry_put ys k n x e i (λ z m. f z (later m)))
  where
    by : (t : Bool) → has k y ≡ t → (list_any (has k) ys ≡ true → entry_of (put ys k x) n ≡ x) → entry_of (if t then x ∷ ys otherwise y ∷ put ys k x) n ≡ x
    by true p ih = rw (eq-eqb x.number.0 n e)
    by false p ih = rw (f y first p) (ih (rw p at h))

pub entry_other : (es : List Entry) (k n : ℕ) (x : Entry) → eqb k n ≡ false → has n x ≡ false → entry_of (put es k x) n ≡ entry_of es n
entry_other [] k n x p q = refl
entry_other (y ∷ ys) k n x p q = by (has k y) refl (entry_other ys k n x p q)
  where
    by : (t : Bool) → has k y ≡ t → entry_of (put ys k x) n ≡ entry_of ys n → entry_of (if t then x ∷ ys otherwise y ∷ put ys k x) n ≡ entry_of (y ∷ ys) n
    by true h ih = rw (q, eqb-true y.number.0 k h, p)
    by false h ih = rw ih

pub put-own : (es : List Entry) (n : ℕ) → put es n (entry_of es n) ≡ es
put-own [] n = refl
put-own (y ∷ ys) n = by (has n y) (put-own ys n)
  where
    by : (t : Bool) → put ys n (entry_of ys n) ≡ ys → (if t then (if t then y otherwise entry_of ys n) ∷ ys otherwise y ∷ put ys n (if t then y otherwise entry_of ys n)) ≡ y ∷ ys
    by true ih = refl
    by false ih = rw ih

pub any-put : (test : Entry → Bool) (es : List Entry) (k : ℕ) (x : Entry) → list_any test es ≡ false → test x ≡ false → list_any test (put es k x) ≡ false
any-put test [] k x h e = refl
any-put test (y ∷ ys) k x h e =
    let (p, q) = or_false (test y) (list_any test ys) h in
    by (has k y) p q (any-put test ys k x q e)
  where
    by : (t : Bool) → test y ≡ false → list_any test ys ≡ false → list_any test (put ys k x) ≡ false → list_any test (if t then x ∷ ys otherwise y ∷ put ys k x) ≡ false
    by true p q ih = rw e q
    by false p q ih = rw p ih

-- ---- at the place of its own number
module _ (n : ℕ) (x : Entry) (own : x.number.0 ≡ n) where
  numbers : (y : Entry) → has n y ≡ true → y.number.0 ≡ x.number.0
  numbers y h = eqb-true y.number.0 n h ∙ sym own

  has-put : (es : List Entry) (m : ℕ) → list_any (has m) (put es n x) ≡ list_any (has m) es
  has-put [] m = refl
  has-put (y ∷ ys) m = by (has n y) refl (has-put ys m)
    where
      by : (t : Bool) → has n y ≡ t → list_any (has m) (put ys n x) ≡ list_any (has m) ys → list_any (has m) (if t then x ∷ ys otherwise y ∷ put ys n x) ≡ list_any (has m) (y ∷ ys)
      by true h ih = rw (numbers y h)
      by false h ih = rw ih

  pub twice-put : (es : List Entry) → twice (put es n x) ≡ twice es
  twice-put [] = refl
  twice-put (y ∷ ys) = by (has n y) refl (twice-put ys)
    where
      by : (t : Bool) → has n y ≡ t → twice (put ys n x) ≡ twice ys → twice (if t then x ∷ ys otherwise y ∷ put ys n x) ≡ twice (y ∷ ys)
      by true h ih = rw (numbers y h)
      by false h ih = rw (ih, has-put ys y.number.0)

  pub places-put : (es : List Entry) → places (put es n x) ≡ places es
  places-put [] = refl
  places-put (y ∷ ys) = by (has n y) refl (places-put ys)
    where
      by : (t : Bool) → has n y ≡ t → places (put ys n x) ≡ places ys → places (if t then x ∷ ys otherwise y ∷ put ys n x) ≡ places (y ∷ ys)
      by true h ih = rw (numbers y h)
      by false h ih = rw ih

-- ---- at the first free place
module _ (x : Entry) (named : is_free x ≡ false) where
  pub twice-new : (es : List Entry) → list_any (has x.number.0) es ≡ false → twice es ≡ false → twice (put es 0 x) ≡ false
  twice-new [] p q = refl
  twice-new (y ∷ ys) p q =
      let (p, p') = or_false (has x.number.0 y) (list_any (has x.number.0) ys) p in
      by (is_free y) refl p p' (twice-new ys p' (not_twice_rest y ys q))
    where
      by : (t : Bool) → is_free y ≡ t → has x.number.0 y ≡ false → list_any (has x.number.0) ys ≡ false → twice (put ys 0 x) ≡ false
          → twice (if t then x ∷ ys otherwise y ∷ put ys 0 x) ≡ false
      by true h p p' ih = rw (named, p') (not_twice_rest y ys q)
      by false h p p' ih =
          let turned = eqb_false_turned y.number.0 x.number.0 p in
          let o : list_any (has y.number.0) (put ys 0 x) ≡ false = any-put (has y.number.0) ys 0 x (not_twice_others y ys q h) turned in
          rw (h, o) ih

  pub places-new : (es : List Entry) → list_any is_free es ≡ true → suc (places (put es 0 x)) ≡ places es
  places-new [] h = absurd (false≢true h)
  places-new (y ∷ ys) h = by (is_free y) refl (λ i. places-new ys i)
    where
      by : (t : Bool) → is_free y ≡ t → (list_any is_free ys ≡ true → suc (places (put ys 0 x)) ≡ places ys)
          → suc (places (if t then x ∷ ys otherwise y ∷ put ys 0 x)) ≡ places (y ∷ ys)
      by true e ih = rw (named, e)
      by false e ih = rw e (ih (rw e at h))

-- where a place is left there is one
pub free-there : (es : List Entry) → 0 < places es → list_any is_free es ≡ true
free-there [] h = absurd (omega (arith, h))
free-there (y ∷ ys) h = by (is_free y) refl (free-there ys)
  where
    by : (t : Bool) → is_free y ≡ t → (0 < places ys → list_any is_free ys ≡ true) → (t || list_any is_free ys) ≡ true
    by true e ih = refl
    by false e ih = ih (rw e at h)
