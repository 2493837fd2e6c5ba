-- What the tests of a table and of a list find, gathered entry by entry, is what their definitions say.
use mathlib.Core.Path.{◌≡◌, refl, sym, ◌∙◌, ap}
use mathlib.Core.Bool.{Bool, true, false, ◌&&◌, ◌||◌, not, and-false, or-false, or_assoc, or_comm, and-or_distrib_left}
use mathlib.Core.List.{List, [], ◌∷◌, ◌++◌, append_assoc}
use Prim.Native.Nat.{ℕ, zero, suc, ◌+◌, ◌-◌, ◌<◌, ◌≤◌}
use native.Mathlib.Nat.{sub-zero, suc-sub-suc}
use native.Mathlib.Numerals.{add-one}
use native.Mathlib.Omega.{arith}
use borrow.Author.Tests.{eqb-true, eqb-false, eq-eqb, ne_eqb, lt-ltb, le-ltb}
use lib.Dec.{eqb, ltb, eqb-zero-suc, eqb-suc-zero, eqb-suc-suc, leb-suc-suc}
use lib.ListN.{length, get_or, drop, drop_of_length-le, length-append}
use lib.Seq.{drop-cons}
use Rattle.std.specs.List.{list_any}
use Rattle.whole.specs.Choice.{if◌then◌otherwise◌}
use Rattle.entry.specs.declared.entry.Entry.{Entry}
use Rattle.examination.specs.declared.testing.Seen.{Seen}
use Rattle.examination.specs.declared.testing.Noted.{Noted}
use Rattle.entry.specs.Entry.{is_bad, is_free, free}
use Rattle.examination.specs.Testing.{nothing_seen, seen, nothing_noted, noted, left_after}
use Rattle.register.specs.Table.{has, first_at, entry_of, count, twice, bad_table, places}
use Rattle.register.specs.Import.{unknown, unsound, unfit, clashing, is_new, Tested}

-- ---- tests joined by "or"
or_swap : (a b c : Bool) → (a || (b || c)) ≡ (b || (a || c))
or_swap true true c = refl
or_swap true false c = refl
or_swap false true c = refl
or_swap false false c = refl

or_pairs : (a b c d : Bool) → ((a || b) || (c || d)) ≡ ((a || c) || (b || d))
or_pairs true b c d = refl
or_pairs false b c d = or_swap b c d

or_round : (a b c d : Bool) → (a || (b || (c || d))) ≡ ((d || b) || (a || c))
or_round a b c d = simp (or_assoc, or_comm, or_swap)

any-before : (test : Entry → Bool) (before : List Entry) (e : Entry) → list_any test (before ++ e ∷ []) ≡ (list_any test before || test e)
any-before test [] e = or-false (test e)
any-before test (x ∷ before) e = rw (any-before test before e) (sym (or_assoc (test x) (list_any test before) (test e)))

-- ---- the first place of a number is another
first-before : (before : List Entry) (e : Entry) (rest : List Entry) (n : ℕ) → has n e ≡ true
    → not (eqb (first_at (before ++ e ∷ rest) n) (length before)) ≡ list_any (has n) before
first-before [] e rest n p = ap (λ (t : Bool). not (eqb (if t then 0 otherwise suc (first_at rest n)) 0)) p
first-before (x ∷ before) e rest n p = by (has n x) (first-before before e rest n p)
  where
    by : (t : Bool) → not (eqb (first_at (before ++ e ∷ rest) n) (length before)) ≡ list_any (has n) before
        → not (eqb (if t then 0 otherwise suc (first_at (before ++ e ∷ rest) n)) (suc (length before))) ≡ (t || list_any (has n) before)
    by true more = ap not (eqb-zero-suc (length before))
    by false more = ap not (eqb-suc-suc (first_at (before ++ e ∷ rest) n) (length before)) ∙ more

elsewhere : (before : List Entry) (e : Entry) (rest : List Entry)
    → not (eqb (first_at (before ++ e ∷ rest) e.number.0) (length before)) ≡ list_any (has e.number.0) before
elsewhere before e rest = first-before before e rest e.number.0 (eq-eqb e.number.0 e.number.0 refl)

-- ---- a thermometer is there twice where one of its places comes after another
abbrev again : List Entry → Entry → Bool
again before e = not (is_free e) && list_any (has e.number.0) before

abbrev repeats : List Entry → List Entry → Bool
repeats before [] = false
repeats before (e ∷ es) = again before e || repeats (before ++ e ∷ []) es

-- one number and not 0, whichever is asked
same_number : (m n : ℕ) → (not (eqb n 0) && eqb m n) ≡ (not (eqb m 0) && eqb n m)
same_number m n = by (eqb m n) refl
  where
    by : (t : Bool) → eqb m n ≡ t → (not (eqb n 0) && eqb m n) ≡ (not (eqb m 0) && eqb n m)
    by true p = rw (eqb-true m n p)
    by false p = rw (p, ne_eqb n m (λ (q : n ≡ m). eqb-false m n p (sym q))) (and-false (not (eqb n 0)) ∙ sym (and-false (not (eqb m 0))))

again_more : (before : List Entry) (e x : Entry) → again (before ++ e ∷ []) x ≡ (again before x || (not (is_free e) && has e.number.0 x))
again_more before e x =
    rw (any-before (has x.number.0) before e, and-or_distrib_left (not (is_free x)) (list_any (has x.number.0) before) (has x.number.0 e))
    (ap (λ (t : Bool). again before x || t) (same_number e.number.0 x.number.0))

any_again : (before : List Entry) (e : Entry) (es : List Entry)
    → list_any (again (before ++ e ∷ [])) es ≡ (list_any (again before) es || (not (is_free e) && list_any (has e.number.0) es))
any_again before e [] = sym (and-false (not (is_free e)))
any_again before e (x ∷ es) =
    rw (again_more before e x, any_again before e es, and-or_distrib_left (not (is_free e)) (has e.number.0 x) (list_any (has e.number.0) es))
    (or_pairs (again before x) (not (is_free e) && has e.number.0 x) (list_any (again before) es) (not (is_free e) && list_any (has e.number.0) es))

repeats_is : (before rest : List Entry) → repeats before rest ≡ (twice rest || list_any (again before) rest)
repeats_is before [] = refl
repeats_is before (e ∷ es) =
    rw (repeats_is (before ++ e ∷ []) es, any_again before e es)
    (or_round (again before e) (twice es) (list_any (again before) es) (not (is_free e) && list_any (has e.number.0) es))

none_again : (rest : List Entry) → list_any (again []) rest ≡ false
none_again [] = refl
none_again (e ∷ es) = rw (and-false (not (is_free e))) (none_again es)

repeats_twice : (list : List Entry) → repeats [] list ≡ twice list
repeats_twice list = repeats_is [] list ∙ ap (λ (t : Bool). twice list || t) (none_again list) ∙ or-false (twice list)

-- ---- one note taken in a run through a list, from one place on
module _
    {S : Type 0} (note : S → Bool) (turn : S → Entry → ℕ → S) (run : S → ℕ → List Entry → S)
    (ends : (s : S) (i : ℕ) → run s i [] ≡ s) (goes : (s : S) (i : ℕ) (e : Entry) (es : List Entry) → run s i (e ∷ es) ≡ run (turn s e i) (i + 1) es)
    (test : Entry → Bool)
  where
    -- whether any passes a test
    any-noted : ((s : S) (e : Entry) (i : ℕ) → note (turn s e i) ≡ (note s || test e))
        → (es : List Entry) (s : S) (i : ℕ) → note (run s i es) ≡ (note s || list_any test es)
    any-noted each [] s i = ap note (ends s i) ∙ sym (or-false (note s))
    any-noted each (e ∷ es) s i =
        ap note (goes s i e es)
        ∙ any-noted each es (turn s e i) (i + 1)
        ∙ ap (λ (t : Bool). t || list_any test es) (each s e i)
        ∙ or_assoc (note s) (test e) (list_any test es)

    -- whether any passes a test or is there again
    repeats-noted : (all : List Entry)
        → ((s : S) (e : Entry) (i : ℕ) (t : Bool) → not (eqb (first_at all e.number.0) i) ≡ t
        → note (turn s e i) ≡ (note s || ((not (is_free e) && t) || test e)))
        → (before rest : List Entry) (s : S) (i : ℕ) → all ≡ before ++ rest → i ≡ length before
        → note (run s i rest) ≡ (note s || (repeats before rest || list_any test rest))
    repeats-noted all each before [] s i p q = ap note (ends s i) ∙ sym (or-false (note s))
    repeats-noted all each before (e ∷ es) s i p q =
        let other : not (eqb (first_at all e.number.0) i) ≡ list_any (has e.number.0) before = rw (p, q) (elsewhere before e es) in
        ap note (goes s i e es)
        ∙ repeats-noted all each (before ++ e ∷ []) es (turn s e i) (i + 1)
        (p ∙ sym (append_assoc before (e ∷ []) es)) (omega (arith, q, length-append before (e ∷ [])))
        ∙ ap (λ (t : Bool). t || (repeats (before ++ e ∷ []) es || list_any test es)) (each s e i (list_any (has e.number.0) before) other)
        ∙ or_assoc (note s) (again before e || test e) (repeats (before ++ e ∷ []) es || list_any test es)
        ∙ ap (λ (t : Bool). note s || t) (or_pairs (again before e) (test e) (repeats (before ++ e ∷ []) es) (list_any test es))

-- ---- the tests of a table
abbrev pub seen_from : List Entry → Seen → ℕ → List Entry → Seen
seen_from table s i [] = s
seen_from table s i (e ∷ es) = seen_from table (seen s e i (first_at table e.number.0)) (i + 1) es

pub seen_next : (table : List Entry) (s : Seen) (i : ℕ) → i < length table
    → seen_from table s i (drop i table)
    ≡ seen_from table (seen s (get_or table i free) i (first_at table (get_or table i free).number.0)) (i + 1) (drop (i + 1) table)
seen_next table s i l =
    ap (seen_from table s i) (drop-cons table i free l)
    ∙ ap (λ (at : ℕ). seen_from table s i (get_or table i free ∷ drop at table)) (sym (add-one i))

pub seen_end : (table : List Entry) (s : Seen) (i : ℕ) → length table ≤ i → seen_from table s i (drop i table) ≡ s
seen_end table s i l = ap (seen_from table s i) (drop_of_length-le table l)

-- what one entry adds
abbrev holds_bad : Entry → Bool
holds_bad e = not (is_free e) && is_bad e.certificate

field_if : {A : Type 0} (field : Seen → A) (t : Bool) (x y : Seen) → field (if t then x otherwise y) ≡ (if t then field x otherwise field y)
field_if field true x y = refl
field_if field false x y = refl

seen_bad : (s : Seen) (e : Entry) (i f : ℕ) (t : Bool) → not (eqb f i) ≡ t → (seen s e i f).bad ≡ (s.bad || ((not (is_free e) && t) || holds_bad e))
seen_bad s e i f t p = field_if (λ (x : Seen). x.bad) (is_free e) _ _ ∙ by (is_free e)
  where
    by : (u : Bool)
        → (if u then s.bad otherwise (s.bad || not (eqb f i)) || is_bad e.certificate) ≡ (s.bad || ((not u && t) || (not u && is_bad e.certificate)))
    by true = sym (or-false s.bad)
    by false = rw p (or_assoc s.bad t (is_bad e.certificate))

seen-places : (s : Seen) (e : Entry) (i f : ℕ) → (seen s e i f).places ≡ (if is_free e then s.places + 1 otherwise s.places)
seen-places s e i f = field_if (λ (x : Seen). x.places) (is_free e) _ _

pub seen-room : (s : Seen) (e : Entry) (i f : ℕ) → s.places ≤ i → (seen s e i f).places ≤ i + 1
seen-room s e i f l = rw (seen-places s e i f) (by (is_free e))
  where
    by : (t : Bool) → (if t then s.places + 1 otherwise s.places) ≤ i + 1
    by true = omega (arith, l)
    by false = omega (arith, l)

places_from : (table : List Entry) (s : Seen) (i : ℕ) (es : List Entry) → (seen_from table s i es).places ≡ s.places + places es
places_from table s i [] = omega arith
places_from table s i (e ∷ es) =
    places_from table (seen s e i (first_at table e.number.0)) (i + 1) es
    ∙ ap (λ (n : ℕ). n + places es) (seen-places s e i (first_at table e.number.0))
    ∙ by (is_free e)
  where
    by : (t : Bool) → (if t then s.places + 1 otherwise s.places) + places es ≡ s.places + (if t then suc (places es) otherwise places es)
    by true = omega arith
    by false = refl

bad_from : (table : List Entry) → (seen_from table nothing_seen 0 table).bad ≡ bad_table table
unfolding bad_table
bad_from table =
    repeats-noted (λ (s : Seen). s.bad) (λ (s : Seen) (e : Entry) (i : ℕ). seen s e i (first_at table e.number.0)) (seen_from table)
    (λ (s : Seen) (i : ℕ). refl) (λ (s : Seen) (i : ℕ) (e : Entry) (es : List Entry). refl) holds_bad table
    (λ (s : Seen) (e : Entry) (i : ℕ). seen_bad s e i (first_at table e.number.0)) [] table nothing_seen 0 refl refl
    ∙ ap (λ (t : Bool). t || list_any holds_bad table) (repeats_twice table)

pub seen_all : (table : List Entry) → ((seen_from table nothing_seen 0 table).bad ≡ bad_table table) × ((seen_from table nothing_seen 0 table).places ≡ places table)
seen_all table = (bad_from table, omega (arith, places_from table nothing_seen 0 table))

-- ---- the tests of a list
abbrev pub noted_from : List Entry → List Entry → Noted → ℕ → List Entry → Noted
noted_from table list s k [] = s
noted_from table list s k (e ∷ es) = noted_from table list (noted s e k (first_at list e.number.0) (entry_of table e.number.0)) (k + 1) es

pub noted-next : (table list : List Entry) (s : Noted) (k : ℕ) → k < length list
    → noted_from table list s k (drop k list)
    ≡ noted_from table list
    (noted s (get_or list k free) k (first_at list (get_or list k free).number.0) (entry_of table (get_or list k free).number.0))
    (k + 1) (drop (k + 1) list)
noted-next table list s k l =
    ap (noted_from table list s k) (drop-cons list k free l)
    ∙ ap (λ (at : ℕ). noted_from table list s k (get_or list k free ∷ drop at list)) (sym (add-one k))

pub noted-end : (table list : List Entry) (s : Noted) (k : ℕ) → length list ≤ k → noted_from table list s k (drop k list) ≡ s
noted-end table list s k l = ap (noted_from table list s k) (drop_of_length-le list l)

-- one more new thermometer, with so many places left
new_short : (left new : ℕ) → (eqb left 0 || ltb (left - 1) new) ≡ ltb left (suc new)
new_short zero new = sym (lt-ltb 0 (suc new) (omega arith))
new_short (suc left) new = rw (eqb-suc-zero left, suc-sub-suc left 0, sub-zero left) (sym (leb-suc-suc (suc left) new))

-- an entry that is there again is unfit, whether or not its number is 0
unfit_once : (a b t : Bool) → ((a || b) || t) ≡ (a || ((not b && t) || b))
unfit_once true b t = refl
unfit_once false true t = refl
unfit_once false false t = sym (or-false t)

module _ (table list : List Entry) where
  abbrev turn : Noted → Entry → ℕ → Noted
  turn s e k = noted s e k (first_at list e.number.0) (entry_of table e.number.0)

  short-from : (es : List Entry) (s : Noted) (k : ℕ) → (noted_from table list s k es).short ≡ (s.short || ltb s.left (count (is_new table) es))
  short-from [] s k = rw (le-ltb s.left 0 (omega arith)) (sym (or-false s.short))
  short-from (e ∷ es) s k =
      short-from es (turn s e k) (k + 1) ∙ by (is_new table e)
    where
      by : (t : Bool)
          → ((s.short || (t && eqb s.left 0)) || ltb (left_after s.left t) (count (is_new table) es))
          ≡ (s.short || ltb s.left (if t then suc (count (is_new table) es) otherwise count (is_new table) es))
      by true =
          or_assoc s.short (eqb s.left 0) (ltb (s.left - 1) (count (is_new table) es))
          ∙ ap (λ (t : Bool). s.short || t) (new_short s.left (count (is_new table) es))
      by false = or_assoc s.short false (ltb s.left (count (is_new table) es))

  -- a note of what any entry of the list is
  any_of : (note : Noted → Bool) (test : Entry → Bool) → ((s : Noted) (e : Entry) (k : ℕ) → note (turn s e k) ≡ (note s || test e))
      → (es : List Entry) (s : Noted) (k : ℕ) → note (noted_from table list s k es) ≡ (note s || list_any test es)
  any_of note test =
      any-noted note turn (noted_from table list)
      (λ (s : Noted) (k : ℕ). refl) (λ (s : Noted) (k : ℕ) (e : Entry) (es : List Entry). refl) test

  unfit-from : (left : ℕ) → (noted_from table list (nothing_noted left) 0 list).unfit ≡ unfit list
  unfit-from left =
      repeats-noted (λ (s : Noted). s.unfit) turn (noted_from table list)
      (λ (s : Noted) (k : ℕ). refl) (λ (s : Noted) (k : ℕ) (e : Entry) (es : List Entry). refl) is_free list
      (λ (s : Noted) (e : Entry) (k : ℕ) (t : Bool) (p : not (eqb (first_at list e.number.0) k) ≡ t). rw p (unfit_once s.unfit (is_free e) t))
      [] list (nothing_noted left) 0 refl refl
      ∙ ap (λ (t : Bool). t || list_any is_free list) (repeats_twice list)
      ∙ or_comm (twice list) (list_any is_free list)

  pub noted-all : (left : ℕ) → Tested table list left (noted_from table list (nothing_noted left) 0 list)
  noted-all left =
      record {
        of_unknown = any_of (λ (s : Noted). s.unknown) unknown (λ (s : Noted) (e : Entry) (k : ℕ). refl) list (nothing_noted left) 0;
        of_unsound = any_of (λ (s : Noted). s.unsound) unsound (λ (s : Noted) (e : Entry) (k : ℕ). refl) list (nothing_noted left) 0;
        of_unfit = unfit-from left;
        of_clashing = any_of (λ (s : Noted). s.clashing) (clashing table) (λ (s : Noted) (e : Entry) (k : ℕ). refl) list (nothing_noted left) 0;
        of_short = short-from list (nothing_noted left) 0;
      }
