-- Entries of one thermometer: what merging and joining leave, twice and in either order.
use mathlib.Core.Path.{◌≡◌, refl}
use mathlib.Core.Bool.{Bool, true, false, true≢false, ◌&&◌, not}
use Prim.Native.Nat.{ℕ, ◌<◌, ◌≤◌, max}
use native.Mathlib.Decide.{dec_lt}
use native.Mathlib.Omega.{arith}
use borrow.Author.Tests.{eqb-true, eq-eqb, lt-ltb, le-ltb, ltb-true, ltb-false}
use lib.Dec.{eqb, ltb}
use lib.IntN.{ℤ}
use Rattle.whole.specs.Choice.{if◌then◌otherwise◌}
use Rattle.whole.proofs.Choice.{and_true}
use Rattle.std.specs.Ordering.{int_eq}
use Rattle.std.proofs.lemmas.Bool.Decides.{Decides-int_eq}
use Rattle.entry.specs.declared.entry.Entry.{Entry}
use Rattle.deviation.specs.declared.places.Places.{Places}
use Rattle.certificate.specs.declared.soundness.Given.{Given}
use Rattle.entry.specs.declared.entry.Serial.{Serial}
use Rattle.entry.specs.Entry.{same_places, same, is_bad, is_free, free, clash, higher, merged, joined}

-- ---- a certificate is the same as itself only
eq_of : (x y : ℤ) → int_eq x y ≡ true → x ≡ y
eq_of x y e = (Decides-int_eq x y).0 e

all_five : (a b c d e : Bool) → (a && b && c && d && e) ≡ true → (a ≡ true) × (b ≡ true) × (c ≡ true) × (d ≡ true) × (e ≡ true)
all_five a b c d e h =
    let (h, e-true) = and_true (a && b && c && d) e h in
    let (h, d-true) = and_true (a && b && c) d h in
    let (h, c-true) = and_true (a && b) c h in
    let (a-true, b-true) = and_true a b h in
    (a-true, b-true, c-true, d-true, e-true)

same_places_eq : (p q : Places) → same_places p q ≡ true → p ≡ q
same_places_eq p q e =
    let (a, b, c, d, wal) =
    all_five (int_eq p.a q.a) (int_eq p.b q.b) (int_eq p.c q.c) (int_eq p.d q.d) (eqb p.wal.0 q.wal.0) e in
    λ i. record {
      a = eq_of p.a q.a a i;
      b = eq_of p.b q.b b i;
      c = eq_of p.c q.c c i;
      d = eq_of p.d q.d d i;
      wal = record { 0 = eqb-true p.wal.0 q.wal.0 wal i };
    }

same_eq : (k l : Given) → same k l ≡ true → k ≡ l
same_eq k l e =
    let (law, places) = and_true (eqb k.law.0 l.law.0) (same_places k.places l.places) e in
    λ i. record { law = record { 0 = eqb-true k.law.0 l.law.0 law i }; places = same_places_eq k.places l.places places i }

eq_self : (x : ℤ) → int_eq x x ≡ true
eq_self x = (Decides-int_eq x x).1 refl

same_self : (k : Given) → same k k ≡ true
same_self k =
    let p = k.places in
    rw (eq-eqb k.law.0 k.law.0 refl, eq_self p.a, eq_self p.b, eq_self p.c, eq_self p.d, eq-eqb p.wal.0 p.wal.0 refl)

-- ---- serials
pub higher_is : (x y : Serial) → (higher x y).0 ≡ max x.0 y.0
higher_is x y = by (ltb x.0 y.0) refl
  where
    by : (t : Bool) → ltb x.0 y.0 ≡ t → (if t then y otherwise x).0 ≡ max x.0 y.0
    by true e = omega (arith, ltb-true x.0 y.0 e)
    by false e = omega (arith, ltb-false x.0 y.0 e)

-- the highest of three numbers
highest : (x y z : Serial) → (higher (higher x y) z).0 ≡ (higher (higher x z) y).0
highest x y z = omega (arith, higher_is x y, higher_is x z, higher_is (higher x y) z, higher_is (higher x z) y)

-- ---- what an entry brings
-- without a clash one serial has one certificate
pub no_clash : (held e : Entry) → is_free held ≡ false → clash held e ≡ false → held.serial.0 ≡ e.serial.0 → held.certificate ≡ e.certificate
no_clash held e f c s = by (same held.certificate e.certificate) refl
  where
    by : (t : Bool) → same held.certificate e.certificate ≡ t → held.certificate ≡ e.certificate
    by true q = same_eq held.certificate e.certificate q
    by false q = absurd (true≢false (rw (f, eq-eqb held.serial.0 e.serial.0 s, q) at c))

clash-not : (held e : Entry) → (held.serial.0 ≡ e.serial.0 → held.certificate ≡ e.certificate) → clash held e ≡ false
clash-not held e h = by (is_free held) (eqb held.serial.0 e.serial.0) refl
  where
    by : (f t : Bool) → eqb held.serial.0 e.serial.0 ≡ t → (not f && t && not (same held.certificate e.certificate)) ≡ false
    by true t q = refl
    by false false q = refl
    by false true q = rw (h (eqb-true held.serial.0 e.serial.0 q), same_self e.certificate)

entry_eq : (x y : Entry) → x.number ≡ y.number → x.serial.0 ≡ y.serial.0 → x.mark.0 ≡ y.mark.0 → x.certificate ≡ y.certificate → x ≡ y
entry_eq x y n s m c = λ i. record { number = n i; serial = record { 0 = s i }; mark = record { 0 = m i }; certificate = c i }

-- an entry of no higher serial and no higher mark brings nothing
merged-within : (held e : Entry) → e.serial.0 ≤ held.serial.0 → e.mark.0 ≤ held.mark.0 → merged held e ≡ held
merged-within held e s m = rw (le-ltb held.serial.0 e.serial.0 s, le-ltb held.mark.0 e.mark.0 m)

-- so neither a free place nor an entry that has come in already brings anything
pub merged-free : (held : Entry) → merged held free ≡ held
merged-free held = merged-within held free (omega arith) (omega arith)

merged-twice : (held e : Entry) → merged (merged held e) e ≡ merged held e
merged-twice held e =
    merged-within (merged held e) e (omega (arith, higher_is held.serial e.serial)) (omega (arith, higher_is held.mark e.mark))

-- an entry comes in where one is held
pub joined-held : (held e : Entry) → is_free held ≡ false → joined held e ≡ merged held e
joined-held held e f = rw f

-- what has come in once brings nothing more
pub joined-twice : (held e : Entry) → merged (joined held e) e ≡ joined held e
joined-twice held e = by (is_free held)
  where
    by : (t : Bool) → merged (if t then e otherwise merged held e) e ≡ (if t then e otherwise merged held e)
    by true = merged-within e e (omega arith) (omega arith)
    by false = merged-twice held e

-- and does not clash
pub joined-clash : (held e : Entry) → clash held e ≡ false → clash (joined held e) e ≡ false
joined-clash held e c = by (is_free held) refl
  where
    by : (t : Bool) → is_free held ≡ t → clash (if t then e otherwise merged held e) e ≡ false
    by true f = clash-not e e (λ s. refl)
    by false f = clash-not (merged held e) e (one (ltb held.serial.0 e.serial.0))
      where
        one : (t : Bool) → (if t then e.serial otherwise held.serial).0 ≡ e.serial.0 → (if t then e.certificate otherwise held.certificate) ≡ e.certificate
        one true s = refl
        one false s = no_clash held e f c s

pub merged_good : (held e : Entry) → is_bad held.certificate ≡ false → is_bad e.certificate ≡ false → is_bad (merged held e).certificate ≡ false
merged_good held e p q = by (ltb held.serial.0 e.serial.0)
  where
    by : (t : Bool) → is_bad (if t then e.certificate otherwise held.certificate) ≡ false
    by true = q
    by false = p

-- ---- two entries that come in, in either order
-- the certificate of the higher serial, where one serial has one certificate
either : (k l : Given) (s t : ℕ) → (s ≡ t → k ≡ l) → (if ltb s t then l otherwise k) ≡ (if ltb t s then k otherwise l)
either k l s t h = by (dec_lt s t) (dec_lt t s)
  where
    by : Dec (s < t) → Dec (t < s) → (if ltb s t then l otherwise k) ≡ (if ltb t s then k otherwise l)
    by (yes p) q = rw (lt-ltb s t p, le-ltb t s (omega (arith, p)))
    by (no p) (yes q) = rw (le-ltb s t (omega (arith, q)), lt-ltb t s q)
    by (no p) (no q) = rw (le-ltb s t (omega arith), le-ltb t s (omega arith), h (omega arith))

pub merged_either : (a b : Entry) → a.number.0 ≡ b.number.0 → (a.serial.0 ≡ b.serial.0 → a.certificate ≡ b.certificate) → merged a b ≡ merged b a
merged_either a b n h =
    entry_eq (merged a b) (merged b a) (λ i. record { 0 = n i })
    (omega (arith, higher_is a.serial b.serial, higher_is b.serial a.serial))
    (omega (arith, higher_is a.mark b.mark, higher_is b.mark a.mark))
    (either a.certificate b.certificate a.serial.0 b.serial.0 h)

-- where one is held already, the two need agree only above its serial
module _ (held a b : Entry) (h : held.serial.0 < a.serial.0 → a.serial.0 ≡ b.serial.0 → a.certificate ≡ b.certificate) where
  abbrev s : ℕ
  s = held.serial.0

  abbrev sa : ℕ
  sa = a.serial.0

  abbrev sb : ℕ
  sb = b.serial.0

  third : (merged (merged held a) b).certificate ≡ (merged (merged held b) a).certificate
  third = by (dec_lt s sa) (dec_lt s sb)
    where
      by : Dec (s < sa) → Dec (s < sb) → (merged (merged held a) b).certificate ≡ (merged (merged held b) a).certificate
      by (yes p) (yes q) = rw (lt-ltb s sa p, lt-ltb s sb q) (either a.certificate b.certificate sa sb (h p))
      by (yes p) (no q) = rw (lt-ltb s sa p, le-ltb s sb (omega arith), le-ltb sa sb (omega arith), lt-ltb s sa p)
      by (no p) (yes q) = rw (le-ltb s sa (omega arith), lt-ltb s sb q, le-ltb sb sa (omega arith))
      by (no p) (no q) = rw (le-ltb s sa (omega arith), le-ltb s sb (omega arith), le-ltb s sa (omega arith))

  pub merged-after : merged (merged held a) b ≡ merged (merged held b) a
  merged-after =
      entry_eq (merged (merged held a) b) (merged (merged held b) a) refl
      (highest held.serial a.serial b.serial) (highest held.mark a.mark b.mark) third

pub joined-after : (held a b : Entry) → is_free held ≡ false → joined (joined held a) b ≡ merged (merged held a) b
joined-after held a b f = rw (f, f)
