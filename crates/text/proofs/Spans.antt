-- Bytes of one kind, from the start of a field on: where they stop, the field ends or breaks its rule.
use mathlib.Core.Path.{◌≡◌, refl, sym, ap, ◌∙◌}
use mathlib.Core.Bool.{Bool, true, false, true≢false, ◌&&◌}
use mathlib.Core.List.{List, [], ◌∷◌, ◌++◌}
use native.Mathlib.Decide.{dec_le}
use native.Mathlib.Omega.{arith}
use native.Mathlib.Numerals.{add-one}
use Prim.Native.Nat.{ℕ, zero, suc, ◌+◌, ◌≤◌, ◌<◌}
use Prim.Native.Char.{code}
use lib.Dec.{leb, ltb, eqb}
use lib.ListN.{length, take, drop, get_or, take-append-drop, drop_of_length-le}
use lib.Seq.{take-suc, drop-cons, length-take-le}
use borrow.Author.Tests.{eqb-true, le-leb, lt-leb}
use Rattle.std.specs.List.{list_all}
use Rattle.whole.proofs.Choice.{and_true}
use Rattle.text.specs.Fields.{field, sized}
use Rattle.text.specs.Scanned.{ends, closes_at, next_if, next_of}

pub and_false : (a : Bool) → (a && false) ≡ false
and_false true = refl
and_false false = refl

and_right : (a : Bool) → (a && true) ≡ a
and_right true = refl
and_right false = refl

few : (n most : ℕ) → n ≤ most → (leb 1 n && leb n most) ≡ ltb 0 n
few zero most h = refl
few (suc n) most h = rw (le-leb 1 (suc n) (omega arith), le-leb (suc n) most h)

every_more : (kind : ℕ → Bool) (x : List ℕ) (b : ℕ) → list_all kind x ≡ true → kind b ≡ true → list_all kind (x ++ (b ∷ [])) ≡ true
every_more kind [] b h k = rw k
every_more kind (a ∷ x) b h k =
    let p = and_true (kind a) (list_all kind x) h in
    rw p.0 (every_more kind x b p.1 k)

-- The first i bytes are of the kind.
pub record Span (kind : ℕ → Bool) (s : List ℕ) (i : ℕ) : Type 0 where
  pub within : i ≤ length s
  pub all : list_all kind (take i s) ≡ true

pub span_start : (kind : ℕ → Bool) (s : List ℕ) → Span kind s 0
span_start kind s = record { within = omega arith; all = refl }

pub span_more : {kind : ℕ → Bool} {s : List ℕ} {i : ℕ} → Span kind s i → i < length s → kind (get_or s i 0) ≡ true → Span kind s (i + 1)
span_more {kind} {s} {i} p h k = record {
  within = omega arith;
  all = rw (add-one, take-suc s i 0 h) (every_more kind (take i s) (get_or s i 0) p.all k);
}

-- What a field is where a span stops: the span, or nothing that keeps the rule of so many bytes of the kind.
pub data Ending (kind : ℕ → Bool) (most : ℕ) (s : List ℕ) (i : ℕ) : Type 0 where
  whole : closes_at i s ≡ true → field s ≡ take i s → length (field s) ≡ i → (sized 1 most (field s) && list_all kind (field s)) ≡ true → Ending kind most s i
  none : closes_at i s ≡ false → (sized 1 most (field s) && list_all kind (field s)) ≡ false → Ending kind most s i

module _ (kind : ℕ → Bool) (no-comma : kind (code ",") ≡ false) where
  pub not-comma : (b : ℕ) → kind b ≡ true → eqb b (code ",") ≡ false
  not-comma b k = by (eqb b (code ",")) refl
    where
      by : (t : Bool) → eqb b (code ",") ≡ t → t ≡ false
      by true e = absurd (true≢false (sym k ∙ ap kind (eqb-true b (code ",") e) ∙ no-comma))
      by false e = refl

  field-closed : (x rest : List ℕ) → list_all kind x ≡ true → ends rest ≡ true → field (x ++ rest) ≡ x
  field-closed [] [] h e = refl
  field-closed [] (b ∷ rest) h e = rw e
  field-closed (a ∷ x) rest h e =
      let p = and_true (kind a) (list_all kind x) h in
      rw (not-comma a p.0) (ap (λ (l : List ℕ). a ∷ l) (field-closed x rest p.1 e))

  field-broken : (x : List ℕ) (b : ℕ) (rest : List ℕ) → list_all kind x ≡ true → eqb b (code ",") ≡ false → kind b ≡ false → list_all kind (field (x ++ (b ∷ rest))) ≡ false
  field-broken [] b rest h n k = rw (n, k)
  field-broken (a ∷ x) b rest h n k =
      let p = and_true (kind a) (list_all kind x) h in
      rw (not-comma a p.0, p.0) (field-broken x b rest p.1 n k)

  field-longer : (x : List ℕ) (b : ℕ) (rest : List ℕ) → list_all kind x ≡ true → kind b ≡ true → length x < length (field (x ++ (b ∷ rest)))
  field-longer [] b rest h k = rw (not-comma b k) (omega arith)
  field-longer (a ∷ x) b rest h k =
      let p = and_true (kind a) (list_all kind x) h in
      rw (not-comma a p.0) (omega (arith, field-longer x b rest p.1 k))

  module _ {s : List ℕ} {i : ℕ} (p : Span kind s i) where
    closed : ends (drop i s) ≡ true → field s ≡ take i s
    closed e = ap field (sym (take-append-drop i s)) ∙ field-closed (take i s) (drop i s) p.all e

    split : i < length s → s ≡ take i s ++ (get_or s i 0 ∷ drop (suc i) s)
    split h = sym (take-append-drop i s) ∙ ap (λ (l : List ℕ). take i s ++ l) (drop-cons s i 0 h)

    broken : i < length s → ends (drop i s) ≡ false → kind (get_or s i 0) ≡ false → list_all kind (field s) ≡ false
    broken h e k =
        ap (λ (l : List ℕ). list_all kind (field l)) (split h)
        ∙ field-broken (take i s) (get_or s i 0) (drop (suc i) s) p.all (sym (ap ends (drop-cons s i 0 h)) ∙ e) k

    longer : i < length s → kind (get_or s i 0) ≡ true → i < length (field s)
    longer h k =
        let l : length (take i s) ≡ i = length-take-le i s p.within in
        let f : length (take i s) < length (field (take i s ++ (get_or s i 0 ∷ drop (suc i) s))) = field-longer (take i s) (get_or s i 0) (drop (suc i) s) p.all k in
        let g : length (field (take i s ++ (get_or s i 0 ∷ drop (suc i) s))) ≡ length (field s) = ap (λ (l : List ℕ). length (field l)) (sym (split h)) in
        omega arith

    -- the kind stops at i, which is not past the most
    pub stopped : (most : ℕ) → i ≤ most → (i < length s → kind (get_or s i 0) ≡ false) → Ending kind most s i
    stopped most room stop = by (ends (drop i s)) refl
      where
        at_end : ends (drop i s) ≡ true → (t : Bool) → ltb 0 i ≡ t → Ending kind most s i
        at_end e t z =
            let l : length (field s) ≡ i = ap length (closed e) ∙ length-take-le i s p.within in
            let k : (sized 1 most (field s) && list_all kind (field s)) ≡ ltb 0 i = rw (ap (list_all kind) (closed e) ∙ p.all, l) (and_right (leb 1 i && leb i most) ∙ few i most room) in
            ended t z l k
          where
            ended : (t : Bool) → ltb 0 i ≡ t → length (field s) ≡ i → (sized 1 most (field s) && list_all kind (field s)) ≡ ltb 0 i → Ending kind most s i
            ended true z l k = whole (rw (z, e)) (closed e) l (k ∙ z)
            ended false z l k = none (rw z) (k ∙ z)

        by : (t : Bool) → ends (drop i s) ≡ t → Ending kind most s i
        by true e = at_end e (ltb 0 i) refl
        by false e =
            elim (dec_le (suc i) (length s)) [
              | yes h ↦ none (rw e (and_false (ltb 0 i))) (rw (broken h e (stop h)) (and_false (sized 1 most (field s))))
              | no h ↦ absurd (true≢false (sym (ap ends (drop_of_length-le s {i = i} (omega (arith, h)))) ∙ e))
            ]

    -- one byte of the kind too many
    pub overrun : (most : ℕ) → i ≡ most → i < length s → kind (get_or s i 0) ≡ true → (sized 1 most (field s) && list_all kind (field s)) ≡ false
    overrun most e h k =
        let l = longer h k in
        rw (lt-leb (length (field s)) most (omega arith), and_false (leb 1 (length (field s))))

    -- as many as there may be: what follows is not of the kind, or one too many
    pub filled : Ending kind i s i
    filled = elim (dec_le (suc i) (length s)) [ yes h ↦ by_kind h (kind (get_or s i 0)) refl | no h ↦ stopped i (omega arith) (λ l. absurd (h l)) ]
      where
        by_kind : i < length s → (t : Bool) → kind (get_or s i 0) ≡ t → Ending kind i s i
        by_kind h true k =
            none (rw (drop-cons s i 0 h, not-comma (get_or s i 0) k) (and_false (ltb 0 i))) (overrun i refl h k)
        by_kind h false k = stopped i (omega arith) (λ l. k)

-- where the next field starts
pub next_stopped : {kind : ℕ → Bool} {most : ℕ} {s : List ℕ} {i : ℕ} → Ending kind most s i
    → next_if (closes_at i s) i s ≡ next_of (λ (f : List ℕ). sized 1 most f && list_all kind f) s
next_stopped (whole e f l k) = rw (e, k, l)
next_stopped (none e k) = rw (e, k)
