-- Bytes that are no LF, and a LF among several.
use mathlib.Core.Path.{◌≡◌, refl, ap, ◌∙◌}
use mathlib.Core.Bool.{Bool, false, ◌||◌}
use mathlib.Core.List.{List, [], ◌∷◌, map}
use Prim.Native.Nat.{ℕ, zero, suc, ◌+◌, ◌-◌, ◌≤◌, ◌<◌}
use native.Mathlib.Omega.{arith}
use native.Mathlib.Decide.{dec_lt}
use lib.ListN.{length, get_or, take, drop}
use lib.Seq.{drop-cons, drop-drop, get_or-drop, take-add}
use Rattle.std.specs.List.{list_any}
use Rattle.std.proofs.lemmas.List.Folds.{list_any-append}
use Rattle.whole.proofs.Any.{ors, from_left, or_false}
use Rattle.lines.specs.Feeds.{feed, NoFeed}

-- The n bytes from i + k on, as code names them.
abbrev bytes_from : List ℕ → ℕ → ℕ → ℕ → List ℕ
bytes_from s i k zero = []
bytes_from s i k (suc n) = get_or s (i + k) 0 ∷ bytes_from s i (suc k) n

bytes-from : (s : List ℕ) (i k n : ℕ) → i + k + n ≤ length s → take n (drop (i + k) s) ≡ bytes_from s i k n
bytes-from s i k zero h = refl
bytes-from s i k (suc n) h =
    let next : suc (i + k) ≡ i + suc k = omega arith in
    rw (drop-cons s (i + k) 0 (omega arith), next) (ap (λ (l : List ℕ). get_or s (i + k) 0 ∷ l) (bytes-from s i (suc k) n (omega arith)))

any-map : (s : List ℕ) → list_any (λ (b : Bool). b) (map feed s) ≡ list_any feed s
any-map [] = refl
any-map (b ∷ s) = ap (λ (t : Bool). feed b || t) (any-map s)

-- their tests or-ed, from the left
pub of_bytes : (s : List ℕ) (i n : ℕ) → i + 1 + n ≤ length s → ors (feed (get_or s i 0)) (map feed (bytes_from s i 1 n)) ≡ list_any feed (take (suc n) (drop i s))
of_bytes s i n h =
    let next : suc i ≡ i + 1 = omega arith in
    from_left (feed (get_or s i 0)) (map feed (bytes_from s i 1 n)) ∙ rw (any-map (bytes_from s i 1 n), drop-cons s i 0 (omega arith), next, bytes-from s i 1 n h)

-- two parts
pub any_two : (n m i : ℕ) (s : List ℕ) → (list_any feed (take n (drop i s)) || list_any feed (take m (drop (i + n) s))) ≡ list_any feed (take (n + m) (drop i s))
any_two n m i s = rw (take-add n m (drop i s), list_any-append, drop-drop n i s)

-- where there is none among n bytes, each of them is none
none_in : (n : ℕ) (s : List ℕ) → list_any feed (take n s) ≡ false → (j : ℕ) → j < n → feed (get_or s j 0) ≡ false
none_in zero s e j h = absurd (omega arith)
none_in (suc n) [] e j h = refl
none_in (suc n) (b ∷ s) e zero h = (or_false (feed b) (list_any feed (take n s)) e).0
none_in (suc n) (b ∷ s) e (suc j) h = none_in n s (or_false (feed b) (list_any feed (take n s)) e).1 j (omega arith)

pub no_feed_start : (s : List ℕ) (from : ℕ) → from ≤ length s → NoFeed s from from
no_feed_start s from h = record { onward = omega arith; within = h; none = λ j p q. absurd (omega arith) }

pub no_feed_more : {s : List ℕ} {from i : ℕ} → NoFeed s from i → (n : ℕ) → i + n ≤ length s → list_any feed (take n (drop i s)) ≡ false → NoFeed s from (i + n)
no_feed_more {s} {from} {i} passed n h e =
    record {
      onward = omega (arith, passed.onward);
      within = h;
      none =
          λ j p q. elim (dec_lt j i) [
            | yes k ↦ passed.none j p k
            | no k ↦
                let there : i + (j - i) ≡ j = omega (arith, k) in
                rw (← there, ← get_or-drop i s (j - i) 0) (none_in n (drop i s) e (j - i) (omega (arith, k)))
          ];
    }

-- one more
pub no_feed_next : {s : List ℕ} {from i : ℕ} → NoFeed s from i → i < length s → feed (get_or s i 0) ≡ false → NoFeed s from (i + 1)
no_feed_next {s} {from} {i} passed h e = no_feed_more passed 1 (omega arith) (rw (drop-cons s i 0 h, e))
