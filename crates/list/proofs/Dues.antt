-- What is due to lines: to some after others, and that it is one text with its numbers, which is short.
use mathlib.Core.Path.{◌≡◌, refl, sym, ap, ap₂, ◌∙◌, subst}
use mathlib.Core.List.{List, [], ◌∷◌, ◌++◌, append_assoc, append-nil}
use Rattle.std.specs.Prelude.{Option, None, Some}
use Prim.Native.Nat.{ℕ, ◌+◌, ◌≤◌}
use native.Mathlib.Omega.{arith}
use lib.ListN.{length, length-append}
use Rattle.quantity.specs.Refusals.{number_of}
use Rattle.quantity.specs.declared.refusal.Refusal.TheVariants.{WrongHeader, BufferShort}
use Rattle.text.specs.Decimal.{decimal}
use Rattle.list.specs.declared.kinds.Kind.{Kind}
use Rattle.list.specs.declared.kinds.Desk.{Desk}
use Rattle.list.specs.declared.kinds.Desk.TheVariants.{Launch, Bench}
use Rattle.list.specs.declared.state.Stage.{Stage}
use Rattle.list.specs.declared.state.Stage.TheVariants.{Header, Rows, Stopped}
use Rattle.list.specs.Kinds.{headed, wrong_header, room}
use Rattle.list.specs.Feeding.{HeaderDue, Due, next, DueToAll, DueAtEnd}
use Rattle.list.specs.Promised.{room_at}
use Rattle.list.proofs.OfKinds.{kept_of, never_short}
use Rattle.list.proofs.Headers.{header_short}

pub due-append : (g between later : Stage) (x y : List (List ℕ)) (ns ms t u : List ℕ) → DueToAll g x ns t between → DueToAll between y ms u later → DueToAll g (x ++ y) (ns ++ ms) (t ++ u) later
due-append g between later [] y ns ms t u (i, e, f) k =
    subst (λ (l : List ℕ). DueToAll g y (l ++ ms) (t ++ u) later) (sym i) (subst (λ (s : List ℕ). DueToAll g y ms (s ++ u) later) (sym e) (subst (λ (g' : Stage). DueToAll g' y ms u later) f k))
due-append g between later (line ∷ x) y ns ms t u (n, first, more, rest, due, all, i, e) k = (
  n,
  first,
  more ++ ms,
  rest ++ u,
  due,
  due-append (next g line) between later x y more ms rest u all k,
  ap (λ (l : List ℕ). l ++ ms) i,
  ap (λ (s : List ℕ). s ++ u) e ∙ append_assoc first rest u,
)

-- one more line
pub due_more : (g between : Stage) (lines : List (List ℕ)) (line ns t u : List ℕ) (n : ℕ) → DueToAll g lines ns t between → Due between line n u
    → DueToAll g (lines ++ (line ∷ [])) (ns ++ (n ∷ [])) (t ++ u) (next between line)
due_more g between lines line ns t u n h due =
    due-append g between (next between line) lines (line ∷ []) ns (n ∷ []) t u h (n, u, [], [], due, (refl, refl, refl), refl, sym (append-nil u))

-- The part that is due to the first lines, and that to the others.
pub record Parted (g later : Stage) (x y : List (List ℕ)) (text : List ℕ) : Type 0 where
  pub between : Stage
  pub numbers : List ℕ
  pub others : List ℕ
  pub first : List ℕ
  pub second : List ℕ
  pub due : DueToAll g x numbers first between
  pub more : DueToAll between y others second later
  pub both : text ≡ first ++ second

pub due_parted : (g later : Stage) (x y : List (List ℕ)) (ns text : List ℕ) → DueToAll g (x ++ y) ns text later → Parted g later x y text
due_parted g later [] y ns text d = record { between = g; numbers = []; others = ns; first = []; second = text; due = (refl, refl, refl); more = d; both = refl }
due_parted g later (line ∷ x) y ns text (n, first, more, rest, due, all, i, e) =
    let p = due_parted (next g line) later x y more rest all in
    record {
      between = p.between;
      numbers = n ∷ p.numbers;
      others = p.others;
      first = first ++ p.first;
      second = p.second;
      due = (n, first, p.numbers, p.first, due, p.due, refl, refl);
      more = p.more;
      both = e ∙ ap (λ (s : List ℕ). first ++ s) p.both ∙ sym (append_assoc first p.first p.second);
    }

-- ---- one text, number and stage
header_unique : (desk : Desk) (k : Option Kind) (n n' : ℕ) (t t' : List ℕ) → HeaderDue desk k n t → HeaderDue desk k n' t' → (n ≡ n') × (t ≡ t')
header_unique desk None n n' t t' h i = (h.0 ∙ sym i.0, h.1 ∙ sym i.1)
header_unique desk (Some k) n n' t t' h i = (h.0 ∙ sym i.0, h.1 ∙ sym i.1)

pub due_unique : (g : Stage) (line : List ℕ) (n n' : ℕ) (t t' : List ℕ) → Due g line n t → Due g line n' t' → (n ≡ n') × (t ≡ t')
due_unique (Header desk) line n n' t t' h i = header_unique desk (headed desk line) n n' t t' h i
due_unique (Rows k) line n n' t t' h i = (kept_of k).one line n n' t t' h i
due_unique Stopped line n n' t t' h k = (h.0 ∙ sym k.0, h.1 ∙ sym k.1)

-- the same numbers, the same text and the same stage after them
pub record Same (ns ns' t t' : List ℕ) (later later' : Stage) : Type 0 where
  pub numbers : ns ≡ ns'
  pub text : t ≡ t'
  pub stage : later ≡ later'

pub all_unique : (g : Stage) (lines : List (List ℕ)) (ns ns' t t' : List ℕ) (later later' : Stage) → DueToAll g lines ns t later → DueToAll g lines ns' t' later' → Same ns ns' t t' later later'
all_unique g [] ns ns' t t' later later' h k = record { numbers = h.0 ∙ sym k.0; text = h.1 ∙ sym k.1; stage = h.2 ∙ sym k.2 }
all_unique g (line ∷ lines) ns ns' t t' later later' (n, first, more, rest, due, all, i, e) (n', first', more', rest', due', all', i', e') =
    let one = due_unique g line n n' first first' due due' in
    let others = all_unique (next g line) lines more more' rest rest' later later' all all' in
    record {
      numbers = i ∙ ap₂ (λ (m : ℕ) (l : List ℕ). m ∷ l) one.0 others.numbers ∙ sym i';
      text = e ∙ ap₂ (λ (x : List ℕ) (y : List ℕ). x ++ y) one.1 others.text ∙ sym e';
      stage = others.stage;
    }

pub at_end_unique : (g : Stage) (line : List ℕ) (n n' : ℕ) (t t' : List ℕ) → DueAtEnd g line n t → DueAtEnd g line n' t' → (n ≡ n') × (t ≡ t')
at_end_unique (Header desk) [] n n' t t' h k = (h.0 ∙ sym k.0, h.1 ∙ sym k.1)
at_end_unique (Rows k') [] n n' t t' h k = (h.0 ∙ sym k.0, h.1 ∙ sym k.1)
at_end_unique Stopped [] n n' t t' h k = (h.0 ∙ sym k.0, h.1 ∙ sym k.1)
at_end_unique (Header desk) (b ∷ s) n n' t t' h k = due_unique (Header desk) (b ∷ s) n n' t t' h k
at_end_unique (Rows k') (b ∷ s) n n' t t' h k = due_unique (Rows k') (b ∷ s) n n' t t' h k
at_end_unique Stopped (b ∷ s) n n' t t' h k = due_unique Stopped (b ∷ s) n n' t t' h k

-- ---- a short text, and not the number of a short buffer
pub record Small (room n : ℕ) (t : List ℕ) : Type 0 where
  pub number : n ≡ number_of BufferShort → ⊥
  pub text : length t ≤ room

small : {room n m : ℕ} {t u : List ℕ} → (m ≡ number_of BufferShort → ⊥) → length u ≤ room → (n ≡ m) × (t ≡ u) → Small room n t
small h k (e, f) = record { number = λ short. h (sym e ∙ short); text = rw f k }

wrong_small : (desk : Desk) (n : ℕ) (t : List ℕ) → (n ≡ number_of WrongHeader) × (t ≡ wrong_header desk) → Small (room desk) n t
unfolding decimal
wrong_small Launch n t = small (λ e. omega arith) (omega arith)
wrong_small Bench n t = small (λ e. omega arith) (omega arith)

header_small : (desk : Desk) (k : Option Kind) (n : ℕ) (t : List ℕ) → HeaderDue desk k n t → Small (room desk) n t
header_small desk None n t h = wrong_small desk n t h
header_small desk (Some k) n t (i, j) = record { number = λ e. omega (arith, i, e); text = rw j (header_short desk k) }

pub due-small : (g : Stage) (line : List ℕ) (n : ℕ) (t : List ℕ) → Due g line n t → Small (room_at g) n t
due-small (Header desk) line n t h = header_small desk (headed desk line) n t h
due-small (Rows k) line n t h = record { number = never_short k line n t h; text = (kept_of k).fit line n t h }
due-small Stopped line n t h = small (λ e. omega arith) (omega arith) h

pub at_end_small : (g : Stage) (line : List ℕ) (n : ℕ) (t : List ℕ) → DueAtEnd g line n t → Small (room_at g) n t
at_end_small (Header desk) [] n t h = wrong_small desk n t h
at_end_small (Rows k) [] n t h = small (λ e. omega arith) (omega arith) h
at_end_small Stopped [] n t h = small (λ e. omega arith) (omega arith) h
at_end_small (Header desk) (b ∷ s) n t h = due-small (Header desk) (b ∷ s) n t h
at_end_small (Rows k) (b ∷ s) n t h = due-small (Rows k) (b ∷ s) n t h
at_end_small Stopped (b ∷ s) n t h = due-small Stopped (b ∷ s) n t h

-- What is due to the first lines and the next is within what is due to all.
pub due-within : (g between later : Stage) (before others : List (List ℕ)) (line ns ms t u text : List ℕ) (n : ℕ)
    → DueToAll g before ns t between → Due between line n u → DueToAll g (before ++ (line ∷ others)) ms text later → length t + length u ≤ length text
due-within g between later before others line ns ms t u text n h k all =
    let p = due_parted g later before (line ∷ others) ms text all in
    let one = all_unique g before ns p.numbers t p.first between p.between h p.due in
    within p one.text (subst (λ (g' : Stage). Due g' line n u) one.stage k) p.more
  where
    within : (p : Parted g later before (line ∷ others) text) → t ≡ p.first → Due p.between line n u → DueToAll p.between (line ∷ others) p.others p.second later → length t + length u ≤ length text
    within p e k (n', u', more, rest, due, all, i, f) =
        let all : text ≡ t ++ (u ++ rest) = p.both ∙ ap₂ (λ (x : List ℕ) (y : List ℕ). x ++ y) (sym e) (f ∙ ap (λ (x : List ℕ). x ++ rest) (sym (due_unique p.between line n n' u u' k due).1)) in
        rw (all, length-append t (u ++ rest), length-append u rest) (omega arith)
