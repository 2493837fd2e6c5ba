-- The search for the end of a line.
use mathlib.Core.Path.{◌≡◌, refl, sym, ap, subst, ◌∙◌}
use mathlib.Core.Bool.{true, false}
use mathlib.Core.List.{List, [], ◌∷◌, ◌++◌, append_assoc, append-nil}
use Prim.Native.Nat.{ℕ, zero, suc, ◌+◌, ◌-◌, ◌≤◌, ◌<◌}
use native.Mathlib.Omega.{arith}
use native.Mathlib.Numerals.{add-one}
use lib.ListN.{length, get_or, take}
use lib.Seq.{take-suc}
use borrow.Author.Tests.{ne_eqb}
use Rattle.lines.specs.Lines.{last_byte, ends_after, ends_line, ended, begun}
use Rattle.lines.specs.Ends.{byte_before, EndsAt}
use Rattle.lines.specs.Feeds.{feed, NoFeed, FirstFeed}
use Rattle.lines.proofs.Lines.{ended-more, begun_more, last_more}

-- None of the first i bytes of s ends a line, and after them the last byte is this.
pub record NoEnd (line s : List ℕ) (i last : ℕ) : Type 0 where
  pub before : ended line (take i s) ≡ []
  pub whole : begun line (take i s) ≡ line ++ take i s
  pub after : last_byte (line ++ take i s) ≡ last

-- The same for every line whose last byte is this one.
abbrev pub NoEndAfter : ℕ → List ℕ → ℕ → ℕ → Type 0
NoEndAfter first s i last = (line : List ℕ) → last_byte line ≡ first → NoEnd line s i last

pub no_end_start : (last : ℕ) (s : List ℕ) → NoEndAfter last s 0 last
no_end_start last s line e = record { before = refl; whole = sym (append-nil line); after = ap last_byte (append-nil line) ∙ e }

module _ {first : ℕ} {s : List ℕ} {i last : ℕ} (none : NoEndAfter first s i last) where
  ends_is : (line : List ℕ) → last_byte line ≡ first → (b : ℕ) → ends_line (line ++ take i s) b ≡ ends_after last b
  ends_is line e b = ap (λ (l : ℕ). ends_after l b) (none line e).after

  pub no-end-more : i < length s → ends_after last (get_or s i 0) ≡ false → NoEndAfter first s (i + 1) (get_or s i 0)
  no-end-more h f line e =
      let k = none line e in
      let b = get_or s i 0 in
      let g : ends_line (begun line (take i s)) b ≡ false = rw k.whole (ends_is line e b ∙ f) in
      let t : take (i + 1) s ≡ take i s ++ (b ∷ []) = rw add-one (take-suc s i 0 h) in
      record {
        before = ap (ended line) t ∙ ended-more line (take i s) b g ∙ k.before;
        whole = ap (begun line) t ∙ begun_more line (take i s) b g ∙ ap (λ (l : List ℕ). l ++ (b ∷ [])) k.whole ∙ append_assoc line (take i s) (b ∷ []) ∙ ap (λ (l : List ℕ). line ++ l) (sym t);
        after = ap (λ (l : List ℕ). last_byte (line ++ l)) t ∙ ap last_byte (sym (append_assoc line (take i s) (b ∷ []))) ∙ last_more (line ++ take i s) b;
      }

  pub ends_at : i ≤ length s → (i < length s → ends_after last (get_or s i 0) ≡ true) → (line : List ℕ) → last_byte line ≡ first → EndsAt line s i
  ends_at h ends line e = record { within = h; before = (none line e).before; whole = (none line e).whole; ends = λ k. ends_is line e (get_or s i 0) ∙ ends k }

-- the byte before the next one
pub before-next : (last : ℕ) (s : List ℕ) (i : ℕ) → get_or s i 0 ≡ byte_before last s (i + 1)
before-next last s i =
    let e : i + 1 - 1 ≡ i = omega arith in
    rw (ne_eqb (i + 1) 0 (λ z. omega arith), e)

-- ---- from one LF to the next
-- No line ends before i, and a LF stands there, or i is the length.
pub record AtFeed (last : ℕ) (s : List ℕ) (i : ℕ) : Type 0 where
  pub within : i ≤ length s
  pub none : NoEndAfter last s i (byte_before last s i)
  pub here : i < length s → feed (get_or s i 0) ≡ true

module _ (last : ℕ) (s : List ℕ) where
  abbrev pub NoEndBefore : ℕ → Type 0
  NoEndBefore i = NoEndAfter last s i (byte_before last s i)

  pub no-end-next : {i : ℕ} → NoEndBefore i → i < length s → ends_after (byte_before last s i) (get_or s i 0) ≡ false → NoEndBefore (i + 1)
  no-end-next {i} none h e = subst (NoEndAfter last s (i + 1)) (before-next last s i) (no-end-more none h e)

  -- over n bytes that are no LF
  no-end-over : (n : ℕ) {from to : ℕ} → from + n ≡ to → NoEndBefore from → NoFeed s from to → NoEndBefore to
  no-end-over zero {from} {to} e none passed =
      let same : from ≡ to = omega arith in
      subst NoEndBefore same none
  no-end-over (suc n) {from} {to} e none passed =
      let later : NoFeed s (from + 1) to = record { onward = omega arith; within = passed.within; none = λ j p q. passed.none j (omega arith) q } in
      let no-feed : feed (get_or s from 0) ≡ false = passed.none from (omega arith) (omega arith) in
      no-end-over n (omega arith) (no-end-next none (omega (arith, passed.within)) (rw no-feed)) later

  pub at-feed : {from i : ℕ} → NoEndBefore from → FirstFeed s from i → AtFeed last s i
  at-feed {from} {i} none first =
      let passed = first.before in
      record { within = passed.within; none = no-end-over (i - from) (omega (arith, passed.onward)) none passed; here = first.here }
