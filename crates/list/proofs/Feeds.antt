-- Where feeding stands between two lines, and what it has done where it returns.
use mathlib.Core.Path.{◌≡◌, refl, sym, ap, ap₂, ◌∙◌, subst}
use mathlib.Core.Bool.{Bool, true, false}
use mathlib.Core.List.{List, [], ◌∷◌, ◌++◌, append_assoc, append-nil}
use native.Mathlib.Omega.{arith}
use Prim.Native.Nat.{ℕ, ◌+◌, ◌-◌, ◌≤◌, ◌<◌}
use lib.Dec.{leb}
use lib.ListN.{length, get_or, take, drop, length-append, length-drop, take-append-drop, drop_of_length-le}
use lib.Seq.{length-take-le, take_all, get_or-take, drop-drop, take-append_seam, drop-append_seam}
use borrow.Author.Tests.{leb-true, leb-false, lt-ltb, le-ltb}
use borrow.Rule.Slice.PartMut.{put_mid}
use Rattle.std.specs.Prelude.{None, Some}
use Rattle.std.proofs.lemmas.Option.{none-some, same_Some}
use Rattle.whole.specs.Choice.{if◌then◌otherwise◌}
use Rattle.quantity.specs.Refusals.{number_of}
use Rattle.quantity.specs.declared.refusal.Refusal.TheVariants.{BufferShort}
use Rattle.line.specs.declared.lent.LineAnswer.{LineAnswer}
use Rattle.list.specs.declared.state.Stage.{Stage}
use Rattle.list.specs.declared.state.Stage.TheVariants.{Header, Rows, Stopped}
use Rattle.list.specs.declared.state.State.{State}
use Rattle.list.specs.declared.feeding.Fed.{Fed}
use Rattle.list.specs.declared.feeding.Place.{Place}
use Rattle.list.specs.declared.tally.Tally.{Tally}
use Rattle.list.specs.declared.replies.Reply.{Reply}
use Rattle.lines.specs.Lines.{last_byte, all_but_last, ends_line, ended, begun}
use Rattle.lines.specs.Held.{most_held, capped}
use Rattle.list.specs.Tallies.{is_refused, is_faulty, one_if, how_many, tally_of, with_line}
use Rattle.list.specs.Feeding.{Due, next, DueToAll, DueAtEnd, line_of, code_of, Full, FedAs}
use Rattle.lines.specs.Ends.{EndsAt}
use Rattle.list.specs.Replies.{RepliedAs, Standing, At, HeldAs}
use Rattle.lines.proofs.Lines.{front_take, ends_some, ended-one, begun-none, ended-before, begun-before, ends-here, begun-with, ended-with}
use Rattle.lines.proofs.Capped.{capped-ends, capped-alike, alike_sym}
use Rattle.list.proofs.Capped.{capped-front, capped-next, front_due}
use Rattle.list.proofs.Dues.{due_more}

-- ---- a reply
-- It is written,
pub record Written (g : Stage) (line out out' : List ℕ) (x : LineAnswer) (g' : Stage) : Type 0 where
  pub number : ℕ
  pub text : List ℕ
  pub due : Due g line number text
  pub code : x.code ≡ number
  pub wrote : x.wrote ≡ length text
  pub fits : length text ≤ length out
  pub bytes : out' ≡ text ++ drop (length text) out
  pub later : g' ≡ next g line

-- or there is no room for it.
pub record Short (g : Stage) (line out out' : List ℕ) : Type 0 where
  pub number : ℕ
  pub text : List ℕ
  pub due : Due g line number text
  pub no_room : length out < length text
  pub bytes : out' ≡ out

module _ (g : Stage) (line out out' : List ℕ) (r : Reply) where
  pub replied-written : RepliedAs g line out out' r → (x : LineAnswer) → r.answer ≡ Some x → Written g line out out' x r.stage
  replied-written (n, t, due, placed, later) x some = by (leb (length t) (length out)) refl placed
    where
      by : (b : Bool) → leb (length t) (length out) ≡ b
          → (if b then (r.answer ≡ Some (record { code = n; wrote = length t })) × (out' ≡ t ++ drop (length t) out) otherwise (r.answer ≡ None) × (out' ≡ out)) → Written g line out out' x r.stage
      by true room (p, q) =
          let is : x ≡ record { code = n; wrote = length t } = same_Some x (record { code = n; wrote = length t }) (sym some ∙ p) in
          record {
            number = n;
            text = t;
            due = due;
            code = ap (λ (a : LineAnswer). a.code) is;
            wrote = ap (λ (a : LineAnswer). a.wrote) is;
            fits = leb-true (length t) (length out) room;
            bytes = q;
            later = later;
          }
      by false short (p, q) = absurd (none-some x (sym p ∙ some))

  pub replied-short : RepliedAs g line out out' r → r.answer ≡ None → Short g line out out'
  replied-short (n, t, due, placed, later) none = by (leb (length t) (length out)) refl placed
    where
      by : (b : Bool) → leb (length t) (length out) ≡ b
          → (if b then (r.answer ≡ Some (record { code = n; wrote = length t })) × (out' ≡ t ++ drop (length t) out) otherwise (r.answer ≡ None) × (out' ≡ out)) → Short g line out out'
      by true room (p, q) = absurd (none-some (record { code = n; wrote = length t }) (sym none ∙ p))
      by false short (p, q) = record { number = n; text = t; due = due; no_room = leb-false (length t) (length out) short; bytes = q }

-- ---- a tally
many_more : (such : ℕ → Bool) (numbers : List ℕ) (n : ℕ) → how_many such (numbers ++ (n ∷ [])) ≡ how_many such numbers + one_if (such n)
many_more such [] n = omega arith
many_more such (m ∷ numbers) n = rw (many_more such numbers n) (omega arith)

-- one more line
tally_more : (numbers : List ℕ) (n : ℕ) → with_line (tally_of numbers) n ≡ tally_of (numbers ++ (n ∷ []))
tally_more numbers n = rw (length-append numbers (n ∷ []), many_more is_refused numbers n, many_more is_faulty numbers n)

one_most : (t : Bool) → one_if t ≤ 1
one_most true = omega arith
one_most false = omega arith

-- ---- between two lines
-- the place before the first line
abbrev pub first_place : Stage → Place
first_place g = record { stage = g; used = 0; wrote = 0; tally = tally_of [] }

pub at_start : (st : State) (chunk out : List ℕ) → st.count ≡ 0 → At st chunk out out (first_place st.stage)
at_start st chunk out e = record {
  within = omega arith;
  numbers = [];
  text = [];
  due = (refl, refl, refl);
  nothing = ap (λ (n : ℕ). take n st.held) e;
  wrote = refl;
  fits = omega arith;
  bytes = refl;
  tally = refl;
}

pub standing_start : (g : Stage) (chunk out : List ℕ) → Standing chunk out (first_place g)
standing_start g chunk out = record { used = omega arith; wrote = omega arith; lines = omega arith; refused = omega arith; faulty = omega arith }

at_long : {st : State} {chunk out₀ out : List ℕ} {p : Place} → At st chunk out₀ out p → length out ≡ length out₀
at_long {st} {chunk} {out₀} {out} a =
    ap length a.bytes ∙ length-append a.text (drop (length a.text) out₀) ∙ omega (arith, length-drop (length a.text) out₀, a.fits)

-- the code where no byte of the chunk is left, and where some are
code-none : (used bytes : ℕ) → bytes ≤ used → code_of used bytes ≡ 0
code-none used bytes h = rw (le-ltb used bytes h)

code_some : (used bytes : ℕ) → used < bytes → code_of used bytes ≡ number_of BufferShort
code_some used bytes h = rw (lt-ltb used bytes h)

-- the place after one line more, in the bytes that were used and written
abbrev pub next_place : Place → ℕ → LineAnswer → Stage → Place
next_place p used x g = record { stage = g; used = used; wrote = p.wrote + x.wrote; tally = with_line p.tally x.code }

pub standing_more : {chunk out part out' line : List ℕ} {p : Place} {g g' : Stage} {used : ℕ} {x : LineAnswer} → Standing chunk out p → p.used < used → used ≤ length chunk
    → Written g line (drop p.wrote out) part x g' → length out' ≡ length out → Standing chunk out' (next_place p used x g')
standing_more {out = out} {p = p} {x = x} s onward within w long = record {
  used = within;
  wrote = omega (arith, s.wrote, w.wrote, w.fits, length-drop p.wrote out);
  lines = omega (arith, s.lines);
  refused = omega (arith, s.refused, one_most (is_refused x.code));
  faulty = omega (arith, s.faulty, one_most (is_faulty x.code));
}

-- Feeding has gone on from one place to another, whatever state and buffer it came from.
pub record Going (chunk out₀ out : List ℕ) (first p : Place) : Type 0 where
  pub standing : Standing chunk out p
  pub long : length out ≡ length out₀
  pub at : (st : State) (before : List ℕ) → At st chunk before out₀ first → At st chunk before out p

pub going_start : (chunk out : List ℕ) (p : Place) → Standing chunk out p → Going chunk out out p p
going_start chunk out p s = record { standing = s; long = refl; at = λ st before a. a }

-- From a place on, the next line of the chunk ends at i, or the chunk does.
module _ {st : State} {chunk out₀ out : List ℕ} {p : Place} {i : ℕ} (a : At st chunk out₀ out p) (end : EndsAt [] (drop p.used chunk) i) where
  abbrev part : List ℕ
  part = take i (drop p.used chunk)

  ending : EndsAt (begun (line_of st) (take p.used chunk)) (drop p.used chunk) i
  ending = subst (λ (l : List ℕ). EndsAt l (drop p.used chunk) i) (sym a.nothing) end

  begun-is : begun (line_of st) (take (p.used + i) chunk) ≡ part
  begun-is = begun-before (line_of st) chunk p.used i ending ∙ ap (λ (l : List ℕ). l ++ part) a.nothing

  within-chunk : p.used + i ≤ length chunk
  within-chunk = omega (arith, end.within, length-drop p.used chunk, a.within)

  -- feeding ends there
  held-there : (code : ℕ) (out' : List ℕ) (x : Fed) → HeldAs p part code x → code ≡ code_of (p.used + i) (length chunk) → out' ≡ out
      → (p.used + i < length chunk → Full x.state (get_or chunk (p.used + i) 0) p.wrote (length out₀)) → FedAs st chunk out₀ out' x
  held-there code out' x h is o full =
      let used : x.used ≡ p.used + i = h.used ∙ ap (λ (n : ℕ). p.used + n) (length-take-le i (drop p.used chunk) end.within) in
      record {
        within = rw used within-chunk;
        numbers = a.numbers;
        text = a.text;
        due = rw (used, h.stage, ended-before (line_of st) chunk p.used i ending) a.due;
        wrote = h.wrote ∙ a.wrote;
        fits = a.fits;
        written = o ∙ a.bytes;
        tally = h.tally ∙ a.tally;
        held = rw used (h.held ∙ ap capped (sym begun-is));
        full = λ k. rw (used, h.wrote) (full (omega (arith, used, k)));
        code = rw used (h.code ∙ is);
      }

  -- with a line begun that the chunk does not end
  pub fed-begun : (x : Fed) → HeldAs p part 0 x → p.used + i ≡ length chunk → FedAs st chunk out₀ out x
  fed-begun x h n = held-there 0 out x h (sym (code-none (p.used + i) (length chunk) (omega arith))) refl (λ k. absurd (omega arith))

  module _ (more : p.used + i < length chunk) where
    front-is : all_but_last (begun (line_of st) (take p.used chunk) ++ part) ≡ take (i - 1) (drop p.used chunk)
    front-is = ap (λ (l : List ℕ). all_but_last (l ++ part)) a.nothing ∙ front_take i (drop p.used chunk) end.within

    -- before a line whose answer the buffer has no room for
    pub fed-full : (out' rest : List ℕ) (x : Fed) → HeldAs p part (number_of BufferShort) x
        → Short p.stage (take (i - 1) (drop p.used chunk)) (drop p.wrote out) rest → out' ≡ take p.wrote out ++ rest → FedAs st chunk out₀ out' x
    fed-full out' rest x h short o =
        held-there (number_of BufferShort) out' x h (sym (code_some (p.used + i) (length chunk) more)) (o ∙ ap (λ (l : List ℕ). take p.wrote out ++ l) short.bytes ∙ take-append-drop p.wrote out)
        (λ k. record {
          ends = ap (λ (l : List ℕ). ends_line l (get_or chunk (p.used + i) 0)) (h.held ∙ ap capped (sym begun-is)) ∙ capped-ends (begun (line_of st) (take (p.used + i) chunk)) (get_or chunk (p.used + i) 0) ∙ ends-here (line_of st) chunk p.used i ending more;
          number = short.number;
          text = short.text;
          due =
              rw (h.stage, h.held)
              (front_due (alike_sym (capped-alike part)) p.stage short.number short.text
              (subst (λ (l : List ℕ). Due p.stage l short.number short.text) (sym (front_take i (drop p.used chunk) end.within)) short.due));
          no_room = omega (arith, short.no_room, length-drop p.wrote out, at_long a);
        })

    -- the next line is answered
    pub at_more : (out' rest : List ℕ) (x : LineAnswer) (g : Stage) → Written p.stage (take (i - 1) (drop p.used chunk)) (drop p.wrote out) rest x g → out' ≡ take p.wrote out ++ rest
        → At st chunk out₀ out' (next_place p (p.used + i + 1) x g)
    at_more out' rest x g w o =
        let long : length (a.text ++ w.text) ≡ length a.text + length w.text = length-append a.text w.text in
        let first : take p.wrote out ≡ a.text = ap (take p.wrote) a.bytes ∙ ap (λ (n : ℕ). take n (a.text ++ drop (length a.text) out₀)) a.wrote ∙ take-append_seam a.text (drop (length a.text) out₀) in
        let others : drop p.wrote out ≡ drop (length a.text) out₀ = ap (drop p.wrote) a.bytes ∙ ap (λ (n : ℕ). drop n (a.text ++ drop (length a.text) out₀)) a.wrote ∙ drop-append_seam a.text (drop (length a.text) out₀) in
        record {
          within = omega arith;
          numbers = a.numbers ++ (w.number ∷ []);
          text = a.text ++ w.text;
          due =
              rw (w.later, ended-with (line_of st) chunk p.used i ending more, front-is)
              (due_more st.stage p.stage (ended (line_of st) (take p.used chunk)) (take (i - 1) (drop p.used chunk)) a.numbers a.text w.text w.number a.due w.due);
          nothing = begun-with (line_of st) chunk p.used i ending more;
          wrote = omega (arith, a.wrote, w.wrote, long);
          fits = omega (arith, long, w.fits, length-drop p.wrote out, at_long a, a.wrote, a.fits);
          bytes =
              o ∙ ap (λ (l : List ℕ). take p.wrote out ++ l) w.bytes ∙ rw (first, others, drop-drop (length w.text) (length a.text) out₀, long)
              (sym (append_assoc a.text w.text (drop (length a.text + length w.text) out₀)));
          tally = ap₂ (λ (t : Tally) (n : ℕ). with_line t n) a.tally w.code ∙ tally_more a.numbers w.number;
        }

-- all of the chunk is used
pub fed_all : {st : State} {chunk out₀ out : List ℕ} {p : Place} → At st chunk out₀ out p → length chunk ≤ p.used → (x : Fed) → HeldAs p [] 0 x → FedAs st chunk out₀ out x
fed_all {chunk = chunk} {p = p} a h x held =
    let none : length (drop p.used chunk) ≡ 0 = length-drop p.used chunk ∙ omega arith in
    let end : EndsAt [] (drop p.used chunk) 0 = record { within = omega arith; before = refl; whole = refl; ends = λ k. absurd (omega (arith, none)) } in
    fed-begun a end x held (omega (arith, a.within))

-- ---- what is held
-- whatever the count says, no more than all bytes
pub held_is : (held : List ℕ) (count n : ℕ) → length held ≡ most_held → n ≡ (if leb count most_held then count otherwise most_held) → (n ≤ most_held) × (take count held ≡ take n held)
held_is held count n long e = by (leb count most_held) refl e
  where
    by : (b : Bool) → leb count most_held ≡ b → n ≡ (if b then count otherwise most_held) → (n ≤ most_held) × (take count held ≡ take n held)
    by true t e = (omega (arith, leb-true count most_held t), ap (λ (k : ℕ). take k held) (sym e))
    by false t e =
        (omega arith, take_all count held (omega (arith, leb-false count most_held t)) ∙ sym (take_all n held (omega arith)))

-- the partial line at the end of the input is the last line
pub due-last : (g : Stage) (line : List ℕ) (n : ℕ) (t : List ℕ) → 1 ≤ length line → Due g line n t → DueAtEnd g line n t
due-last g [] n t h d = absurd (omega arith)
due-last (Header desk) (b ∷ s) n t h d = d
due-last (Rows k) (b ∷ s) n t h d = d
due-last Stopped (b ∷ s) n t h d = d

-- ---- parts of a chunk and of a buffer
pub part_is : (s : List ℕ) (from : ℕ) → take (length s - from) (drop from s) ≡ drop from s
part_is s from = take_all (length s - from) (drop from s) (rw (length-drop from s) (omega arith))

pub put_last : (at : ℕ) (out part : List ℕ) → at ≤ length out → put_mid at (length out - at) out part ≡ take at out ++ part
put_last at out part h =
    ap (λ (l : List ℕ). take at out ++ (part ++ l)) (drop_of_length-le (drop at out) {i = length out - at} (rw (length-drop at out) (omega arith))) ∙ ap (λ (l : List ℕ). take at out ++ l) (append-nil part)

pub fed_long : {st : State} {chunk out out' : List ℕ} {x : Fed} → FedAs st chunk out out' x → length out' ≡ length out
fed_long {st} {chunk} {out} f =
    ap length f.written ∙ length-append f.text (drop (length f.text) out) ∙ omega (arith, length-drop (length f.text) out, f.fits)

-- ---- a line that was begun before the chunk
-- the place after it, in the bytes that were used
abbrev pub after_held : ℕ → LineAnswer → Stage → Place
after_held used x g = record { stage = g; used = used; wrote = x.wrote; tally = with_line (tally_of []) x.code }

pub standing_held : {chunk out out' line : List ℕ} {g g' : Stage} {used : ℕ} {x : LineAnswer} → 1 ≤ used → used ≤ length chunk → Written g line out out' x g' → length out' ≡ length out → Standing chunk out' (after_held used x g')
standing_held {x = x} some within w long = record {
  used = within;
  wrote = omega (arith, w.wrote, w.fits);
  lines = omega arith;
  refused = omega (arith, one_most (is_refused x.code));
  faulty = omega (arith, one_most (is_faulty x.code));
}

module _ (st : State) (chunk out : List ℕ) (i : ℕ) (held : List ℕ) (count : ℕ) (end : EndsAt (line_of st) chunk i)
    (line-is : take count held ≡ capped (line_of st ++ take i chunk)) where
  capped_is : take count held ≡ capped (begun (line_of st) (take i chunk))
  capped_is = line-is ∙ ap capped (sym end.whole)

  nothing-due : DueToAll st.stage (ended (line_of st) (take i chunk)) [] [] st.stage
  nothing-due = rw end.before (refl, refl, refl)

  -- what feeding has done where it is not answered
  abbrev still : ℕ → Fed
  still code = record { state = record { held = held; count = count; stage = st.stage }; used = i; wrote = 0; tally = tally_of []; code = code }

  still-held : (code : ℕ) (out' : List ℕ) → code ≡ code_of i (length chunk) → out' ≡ out → (i < length chunk → Full (still code).state (get_or chunk i 0) 0 (length out)) → FedAs st chunk out out' (still code)
  still-held code out' is o full = record {
    within = end.within;
    numbers = [];
    text = [];
    due = nothing-due;
    wrote = refl;
    fits = omega arith;
    written = o;
    tally = refl;
    held = capped_is;
    full = full;
    code = is;
  }

  -- the chunk does not end it
  pub held-begun : i ≡ length chunk → FedAs st chunk out out (still 0)
  held-begun e = still-held 0 out (sym (code-none i (length chunk) (omega arith))) refl (λ k. absurd (omega arith))

  module _ (more : i < length chunk) where
    ends-line : ends_line (take count held) (get_or chunk i 0) ≡ true
    ends-line =
        ap (λ (l : List ℕ). ends_line l (get_or chunk i 0)) line-is ∙ capped-ends (line_of st ++ take i chunk) (get_or chunk i 0) ∙ end.ends more

    pub some-held : 1 ≤ length (take count held)
    some-held = ends_some (take count held) (get_or chunk i 0) ends-line

    -- the buffer has no room for its answer
    pub held-full : (out' : List ℕ) → Short st.stage (all_but_last (take count held)) out out' → FedAs st chunk out out' (still (number_of BufferShort))
    held-full out' short =
        still-held (number_of BufferShort) out' (sym (code_some i (length chunk) more)) short.bytes
        (λ k. record { ends = ends-line; number = short.number; text = short.text; due = short.due; no_room = omega (arith, short.no_room) })

    -- it is answered, and feeding goes on after it
    pub held_at : (out' : List ℕ) (x : LineAnswer) (g : Stage) → Written st.stage (all_but_last (take count held)) out out' x g → At st chunk out out' (after_held (i + 1) x g)
    held_at out' x g w =
        let line = line_of st ++ take i chunk in
        let due : Due st.stage (all_but_last line) w.number w.text =
        capped-front line st.stage w.number w.text (subst (λ (l : List ℕ). Due st.stage (all_but_last l) w.number w.text) line-is w.due) in
        let later : g ≡ next st.stage (all_but_last line) = w.later ∙ ap (λ (l : List ℕ). next st.stage (all_but_last l)) line-is ∙ capped-next line st.stage in
        record {
          within = omega arith;
          numbers = w.number ∷ [];
          text = w.text;
          due = rw (later, ended-one (line_of st) chunk i end more) (w.number, w.text, [], [], due, (refl, refl, refl), refl, sym (append-nil w.text));
          nothing = begun-none (line_of st) chunk i end more;
          wrote = omega (arith, w.wrote);
          fits = w.fits;
          bytes = w.bytes;
          tally = ap (with_line (tally_of [])) w.code ∙ tally_more [] w.number;
        }

pub last-held : (held : List ℕ) (n : ℕ) → 1 ≤ n → n ≤ length held → last_byte (take n held) ≡ get_or held (n - 1) 0
last-held held n h k = rw (length-take-le n held k) (get_or-take n held (n - 1) 0 (omega arith))

pub none-held : (count n : ℕ) → n ≡ (if leb count most_held then count otherwise most_held) → n ≡ 0 → count ≡ 0
none-held count n = by (leb count most_held)
  where
    by : (b : Bool) → n ≡ (if b then count otherwise most_held) → n ≡ 0 → count ≡ 0
    by true e z = omega arith
    by false e z = absurd (omega arith)
