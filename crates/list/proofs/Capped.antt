-- What is due to a line is due to what is held of it.
use mathlib.Core.Path.{◌≡◌, refl, sym, ap, ◌∙◌, subst}
use mathlib.Core.Bool.{Bool, true, false, true≢false}
use mathlib.Core.List.{List, [], ◌∷◌, ◌++◌}
use Rattle.std.specs.Prelude.{Option, None}
use Prim.Native.Nat.{ℕ, ◌-◌, ◌≤◌, ◌<◌}
use native.Mathlib.Omega.{arith}
use lib.ListN.{length}
use lib.Seq.{length-take-le}
use Rattle.whole.specs.Choice.{if◌then◌otherwise◌}
use Rattle.text.specs.Columns.{longest_line}
use Rattle.text.specs.declared.columns.Fault.{Fault}
use Rattle.text.proofs.Faults.{long-fault}
use Rattle.line.specs.Kinds.{input_header, AnsweredBy}
use Rattle.list.specs.declared.kinds.Kind.{Kind}
use Rattle.list.specs.declared.kinds.Desk.{Desk}
use Rattle.list.specs.declared.state.Stage.{Stage}
use Rattle.list.specs.declared.state.Stage.TheVariants.{Header, Rows, Stopped}
use Rattle.lines.specs.Lines.{all_but_last, ends_line, ended}
use Rattle.list.specs.Kinds.{kind_of, taken, headed}
use Rattle.std.specs.List.{find}
use Rattle.std.specs.Str.{bytes_eq}
use Rattle.lines.specs.Held.{most_held, capped}
use Rattle.list.specs.Feeding.{HeaderDue, Due, after_header, next, DueToAll, DueAtEnd}
use Rattle.lines.proofs.Capped.{Alike, equal, over, alike_sym, capped-alike, alike-ends, alike-byte}
use Rattle.list.proofs.Same.{same_not}
use Rattle.list.proofs.Headers.{headers_short}

-- no header is that long
headed-not : (ks : List Kind) (line : List ℕ) → longest_line < length line → find (λ kind. bytes_eq (input_header (kind_of kind)) line) ks ≡ None
headed-not [] line h = refl
headed-not (k ∷ ks) line h = rw (same_not (input_header (kind_of k)) line (λ e. omega (arith, headers_short k))) (headed-not ks line h)

over_not_header : (desk : Desk) (line : List ℕ) → longest_line < length line → headed desk line ≡ None
unfolding headed
over_not_header desk line h = headed-not (taken desk) line h

-- A line that is too long is answered as any other such line.
module _ (p q : List ℕ) (hp : longest_line < length p) (hq : longest_line < length q) where
  over-due : (g : Stage) (n : ℕ) (t : List ℕ) → ◌≡◌ {A = Type 0} (Due g p n t) (Due g q n t)
  over-due (Header desk) n t = ap (λ (k : Option Kind). HeaderDue desk k n t) (over_not_header desk p hp ∙ sym (over_not_header desk q hq))
  over-due (Rows k) n t =
      let kind = kind_of k in
      ap (λ (found : Option Fault). AnsweredBy kind p found n t) (long-fault kind.columns p hp) ∙ sym (ap (λ (found : Option Fault). AnsweredBy kind q found n t) (long-fault kind.columns q hq))
  over-due Stopped n t = refl

  over-next : (g : Stage) → next g p ≡ next g q
  over-next (Header desk) = ap after_header (over_not_header desk p hp ∙ sym (over_not_header desk q hq))
  over-next (Rows k) = refl
  over-next Stopped = refl

-- ---- what is due to alike lines
front_over : (line : List ℕ) → most_held ≤ length line → longest_line < length (all_but_last line)
front_over line h = rw (length-take-le (length line - 1) line (omega arith)) (omega arith)

pub front_due : {p q : List ℕ} → Alike p q → (g : Stage) (n : ℕ) (t : List ℕ) → Due g (all_but_last p) n t → Due g (all_but_last q) n t
front_due (equal e) g n t d = subst (λ (line : List ℕ). Due g (all_but_last line) n t) e d
front_due {p} {q} (over hp hq e l) g n t d = subst (λ (X : Type 0). X) (over-due (all_but_last p) (all_but_last q) (front_over p hp) (front_over q hq) g n t) d

pub front_next : {p q : List ℕ} → Alike p q → (g : Stage) → next g (all_but_last p) ≡ next g (all_but_last q)
front_next (equal e) g = ap (λ (line : List ℕ). next g (all_but_last line)) e
front_next {p} {q} (over hp hq e l) g = over-next (all_but_last p) (all_but_last q) (front_over p hp) (front_over q hq) g

front_all : {p q : List ℕ} → Alike p q → (g later : Stage) (others : List (List ℕ)) (ns text : List ℕ) → DueToAll g (all_but_last p ∷ others) ns text later → DueToAll g (all_but_last q ∷ others) ns text later
front_all a g later others ns text (n, first, more, rest, due, all, i, e) =
    (n, first, more, rest, front_due a g n first due, subst (λ (g' : Stage). DueToAll g' others more rest later) (front_next a g) all, i, e)

pub alike_all : {p q : List ℕ} → Alike p q → (s : List ℕ) (g later : Stage) (ns text : List ℕ) → DueToAll g (ended p s) ns text later → DueToAll g (ended q s) ns text later
alike_all a [] g later ns text d = d
alike_all {p} {q} a (b ∷ s) g later ns text d = by (ends_line p b) (ends_line q b) (alike-ends a b) (alike_all (alike-byte a b) s g later ns text) d
  where
    by : (t u : Bool) → t ≡ u → (DueToAll g (ended (p ++ (b ∷ [])) s) ns text later → DueToAll g (ended (q ++ (b ∷ [])) s) ns text later)
        → DueToAll g (if t then all_but_last p ∷ ended [] s otherwise ended (p ++ (b ∷ [])) s) ns text later
        → DueToAll g (if u then all_but_last q ∷ ended [] s otherwise ended (q ++ (b ∷ [])) s) ns text later
    by true true e k d = front_all a g later (ended [] s) ns text d
    by true false e k d = absurd (true≢false e)
    by false true e k d = absurd (true≢false (sym e))
    by false false e k d = k d

at_end_some : (g : Stage) (line : List ℕ) (n : ℕ) (t : List ℕ) → 0 < length line → ◌≡◌ {A = Type 0} (DueAtEnd g line n t) (Due g line n t)
at_end_some g [] n t h = absurd (omega arith)
at_end_some (Header desk) (b ∷ s) n t h = refl
at_end_some (Rows k) (b ∷ s) n t h = refl
at_end_some Stopped (b ∷ s) n t h = refl

pub alike_at_end : {p q : List ℕ} → Alike p q → (g : Stage) (n : ℕ) (t : List ℕ) → DueAtEnd g p n t → DueAtEnd g q n t
alike_at_end (equal e) g n t d = subst (λ (line : List ℕ). DueAtEnd g line n t) e d
alike_at_end {p} {q} (over hp hq e l) g n t d =
    let same-type : ◌≡◌ {A = Type 0} (DueAtEnd g p n t) (DueAtEnd g q n t) =
    at_end_some g p n t (omega arith) ∙ over-due p q (omega arith) (omega arith) g n t ∙ sym (at_end_some g q n t (omega arith)) in
    subst (λ (X : Type 0). X) same-type d

-- ---- and so to what is held of a line
module _ (line : List ℕ) where
  pub capped-front : (g : Stage) (n : ℕ) (t : List ℕ) → Due g (all_but_last (capped line)) n t → Due g (all_but_last line) n t
  capped-front = front_due (capped-alike line)

  pub capped-next : (g : Stage) → next g (all_but_last (capped line)) ≡ next g (all_but_last line)
  capped-next = front_next (capped-alike line)

  pub capped-all : (s : List ℕ) (g later : Stage) (ns text : List ℕ) → DueToAll g (ended (capped line) s) ns text later → DueToAll g (ended line s) ns text later
  capped-all = alike_all (capped-alike line)

  pub all-capped : (s : List ℕ) (g later : Stage) (ns text : List ℕ) → DueToAll g (ended line s) ns text later → DueToAll g (ended (capped line) s) ns text later
  all-capped = alike_all (alike_sym (capped-alike line))

  pub capped-at-end : (g : Stage) (n : ℕ) (t : List ℕ) → DueAtEnd g (capped line) n t → DueAtEnd g line n t
  capped-at-end = alike_at_end (capped-alike line)

  pub at-end-capped : (g : Stage) (n : ℕ) (t : List ℕ) → DueAtEnd g line n t → DueAtEnd g (capped line) n t
  at-end-capped = alike_at_end (alike_sym (capped-alike line))
