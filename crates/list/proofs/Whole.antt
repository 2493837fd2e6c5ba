-- However a list is cut, all that is written is its answer; and a buffer that holds any answer line is enough.
use mathlib.Core.Path.{◌≡◌, refl, sym, ap, ap₂, ◌∙◌, subst}
use Rattle.std.specs.Prelude.{Option, None, Some}
use mathlib.Core.List.{List, [], ◌∷◌, ◌++◌, append_assoc, append-nil}
use Prim.Native.Nat.{ℕ}
use native.Mathlib.Decide.{dec_lt}
use native.Mathlib.Omega.{arith}
use lib.Dec.{leb}
use lib.ListN.{length, take, drop, take-append-drop}
use lib.Seq.{take-append_seam}
use borrow.Author.Tests.{le-leb}
use Rattle.whole.proofs.Choice.{if_cases}
use Rattle.quantity.specs.Refusals.{number_of}
use Rattle.quantity.specs.declared.refusal.Refusal.TheVariants.{BufferShort}
use Rattle.line.specs.declared.lent.LineAnswer.{LineAnswer}
use Rattle.line.specs.Lent.{Placed}
use Rattle.line.specs.Kinds.{output_header}
use Rattle.list.specs.declared.kinds.Kind.{Kind}
use Rattle.list.specs.declared.kinds.Desk.{Desk}
use Rattle.list.specs.declared.kinds.Kind.TheVariants as kind
use Rattle.list.specs.declared.kinds.Desk.TheVariants.{Launch, Bench}
use Rattle.list.specs.declared.state.Stage.{Stage}
use Rattle.list.specs.declared.state.Stage.TheVariants.{Header, Rows, Stopped}
use Rattle.list.specs.declared.state.State.{State}
use Rattle.lines.specs.Lines.{all_but_last, ended, begun, last_line}
use Rattle.list.specs.Kinds.{kind_of, headed, wrong_header}
use Rattle.list.specs.Lists.{RowsAnswered, HeaderAnswered, LinesAnswered, ListAnswered}
use Rattle.lines.specs.Held.{capped}
use Rattle.list.specs.Feeding.{HeaderDue, after_header, Due, DueToAll, DueAtEnd, line_of, Run, finish, feed, stop}
use Rattle.list.specs.Promised.{EveryCutting, GoesOn, EndFits, EnoughRoom}
use Rattle.lines.proofs.Lines.{ended-append, begun-append}
use Rattle.lines.proofs.Capped.{capped-alike, alike-begun}
use Rattle.list.proofs.Capped.{alike_at_end, capped-all}
use Rattle.list.proofs.Dues.{due-append, due-small, at_end_small}

-- What is due to all lines of an input, from a stage and a partial line on.
pub record Said (g : Stage) (line input output : List ℕ) : Type 0 where
  pub later : Stage
  pub numbers : List ℕ
  pub text : List ℕ
  pub number : ℕ
  pub last : List ℕ
  pub due : DueToAll g (ended line input) numbers text later
  pub at_end : DueAtEnd later (begun line input) number last
  pub both : output ≡ text ++ last

-- after the first part of the input, of whose last line no more is held than it takes
said-after : (g between : Stage) (line part rest numbers text output : List ℕ) → DueToAll g (ended line part) numbers text between → Said between (capped (begun line part)) rest output → Said g line (part ++ rest) (text ++ output)
said-after g between line part rest numbers text output d s = record {
  later = s.later;
  numbers = numbers ++ s.numbers;
  text = text ++ s.text;
  number = s.number;
  last = s.last;
  due = rw (ended-append line part rest) (due-append g between s.later (ended line part) (ended (begun line part) rest) numbers s.numbers text s.text d (capped-all (begun line part) rest between s.later s.numbers s.text s.due));
  at_end = rw (begun-append line part rest) (alike_at_end (alike-begun (capped-alike (begun line part)) rest) s.later s.number s.last s.at_end);
  both = ap (λ (x : List ℕ). text ++ x) s.both ∙ sym (append_assoc text s.text s.last);
}

placed-text : (n : ℕ) (t out out' : List ℕ) (x : LineAnswer) → (x.code ≡ number_of BufferShort → ⊥) → Placed n t out out' x → take x.wrote out' ≡ t
placed-text n t out out' x not_is_short h =
    if_cases (leb (length t) (length out)) h
    (λ p. ap₂ take (ap (λ (x : LineAnswer). x.wrote) p.0) p.1 ∙ take-append_seam t (drop (length t) out))
    (λ p. absurd (not_is_short (ap (λ (x : LineAnswer). x.code) p.0)))

-- nothing is due after a wrong header
abbrev zeros : List (List ℕ) → List ℕ
zeros [] = []
zeros (line ∷ ls) = 0 ∷ zeros ls

stopped_due : (ls : List (List ℕ)) → DueToAll Stopped ls (zeros ls) [] Stopped
stopped_due [] = (refl, refl, refl)
stopped_due (line ∷ ls) = (0, [], zeros ls, [], (refl, refl), stopped_due ls, refl, refl)

stopped_at_end : (line : List ℕ) → DueAtEnd Stopped line 0 []
stopped_at_end [] = (refl, refl)
stopped_at_end (b ∷ s) = (refl, refl)

run_says : {st : State} {input output : List ℕ} → Run st input output → Said st.stage (line_of st) input output
run_says {st} (finish out out' x (n, t, due, placed) not_is_short) = record {
  later = st.stage;
  numbers = [];
  text = [];
  number = n;
  last = t;
  due = (refl, refl, refl);
  at_end = due;
  both = placed-text n t out out' x not_is_short placed;
}
run_says {st} (feed {output = output} chunk more out out' x f run) =
    let rest : List ℕ = drop x.used chunk ++ more in
    let wrote : take x.wrote out' ≡ f.text = ap₂ take f.wrote f.written ∙ take-append_seam f.text (drop (length f.text) out) in
    let whole : take x.used chunk ++ rest ≡ chunk ++ more = sym (append_assoc (take x.used chunk) (drop x.used chunk) more) ∙ ap (λ (s : List ℕ). s ++ more) (take-append-drop x.used chunk) in
    let later = subst (λ (l : List ℕ). Said x.state.stage l rest output) f.held (run_says run) in
    let said = said-after st.stage x.state.stage (line_of st) (take x.used chunk) rest f.numbers f.text output f.due later in
    subst (λ (s : List ℕ). Said st.stage (line_of st) s (take x.wrote out' ++ output)) whole (subst (λ (t : List ℕ). Said st.stage (line_of st) (take x.used chunk ++ rest) (t ++ output)) (sym wrote) said)
run_says {st} (stop unread is) =
    subst (λ (g : Stage). Said g (line_of st) unread []) (sym is)
    (record {
      later = Stopped;
      numbers = zeros (ended (line_of st) unread);
      text = [];
      number = 0;
      last = [];
      due = stopped_due (ended (line_of st) unread);
      at_end = stopped_at_end (begun (line_of st) unread);
      both = refl;
    })

-- ---- what was due is the answer to the list
-- to rows, the last of which may be cut short
rows_said : (kind : Kind) (ls : List (List ℕ)) (line ns text last : List ℕ) (n : ℕ) (later : Stage) → DueToAll (Rows kind) ls ns text later → DueAtEnd later line n last → RowsAnswered kind (ls ++ last_line line) (text ++ last)
rows_said kind [] line ns text last n later (i, e, f) k =
    rw e (ending line (subst (λ (g : Stage). DueAtEnd g line n last) f k))
  where
    ending : (line : List ℕ) → DueAtEnd (Rows kind) line n last → RowsAnswered kind (last_line line) last
    ending [] (e, f) = f
    ending (b ∷ s) h = (n, last, [], h, refl, sym (append-nil last))
rows_said kind (row ∷ ls) line ns text last n later (m, first, more, rest, due, all, i, e) k =
    (m, first, rest ++ last, due, rows_said kind ls line more rest last n later all k, ap (λ (x : List ℕ). x ++ last) e ∙ append_assoc first rest last)

-- nothing after a wrong header
nothing_said : (ls : List (List ℕ)) (line ns text last : List ℕ) (n : ℕ) (later : Stage) → DueToAll Stopped ls ns text later → DueAtEnd later line n last → text ++ last ≡ []
nothing_said [] line ns text last n later (i, e, f) k =
    rw e (ending line (subst (λ (g : Stage). DueAtEnd g line n last) f k))
  where
    ending : (line : List ℕ) → DueAtEnd Stopped line n last → last ≡ []
    ending [] (e, f) = f
    ending (b ∷ s) (e, f) = f
nothing_said (row ∷ ls) line ns text last n later (m, first, more, rest, due, all, i, e) k =
    ap (λ (x : List ℕ). x ++ last) (e ∙ ap (λ (x : List ℕ). x ++ rest) due.1) ∙ nothing_said ls line more rest last n later all k

header_said : (desk : Desk) (k : Option Kind) (text last : List ℕ) (ls : List (List ℕ)) (line first ns rest : List ℕ) (m n : ℕ) (later : Stage) → HeaderDue desk k m first
    → DueToAll (after_header k) ls ns rest later → DueAtEnd later line n last → text ≡ first ++ rest → HeaderAnswered desk k (ls ++ last_line line) (text ++ last)
header_said desk None text last ls line first ns rest m n later due more k e =
    ap (λ (x : List ℕ). x ++ last) (e ∙ ap (λ (x : List ℕ). x ++ rest) due.1) ∙ append_assoc (wrong_header desk) rest last
    ∙ ap (λ (x : List ℕ). wrong_header desk ++ x) (nothing_said ls line ns rest last n later more k) ∙ append-nil (wrong_header desk)
header_said desk (Some kind) text last ls line first ns rest m n later due more k e =
    let start = output_header (kind_of kind) in
    (rest ++ last, rows_said kind ls line ns rest last n later more k, ap (λ (x : List ℕ). x ++ last) (e ∙ ap (λ (x : List ℕ). x ++ rest) due.1) ∙ append_assoc start rest last)

-- a header that is the last line
header_last : (desk : Desk) (k : Option Kind) (n : ℕ) (last : List ℕ) → HeaderDue desk k n last → HeaderAnswered desk k [] last
header_last desk None n last (e, f) = f
header_last desk (Some kind) n last (e, f) = ([], refl, f ∙ sym (append-nil (output_header (kind_of kind))))

lines-said : (desk : Desk) (ls : List (List ℕ)) (line ns text last : List ℕ) (n : ℕ) (later : Stage) → DueToAll (Header desk) ls ns text later → DueAtEnd later line n last
    → LinesAnswered desk (ls ++ last_line line) (text ++ last)
lines-said desk [] line ns text last n later (i, e, f) k = rw e (ending line (subst (λ (g : Stage). DueAtEnd g line n last) f k))
  where
    ending : (line : List ℕ) → DueAtEnd (Header desk) line n last → LinesAnswered desk (last_line line) last
    ending [] (e, f) = f
    ending (b ∷ s) h = header_last desk (headed desk (b ∷ s)) n last h
lines-said desk (header ∷ ls) line ns text last n later (m, first, more, rest, due, all, i, e) k = header_said desk (headed desk header) text last ls line first more rest m n later due all k e

pub every_cutting : EveryCutting
every_cutting desk st input output (count, stage) run =
    let said = subst (λ (l : List ℕ). Said st.stage l input output) (ap (λ (n : ℕ). take n st.held) count) (run_says run) in
    let s = subst (λ (g : Stage). Said g [] input output) stage said in
    subst (ListAnswered desk input) (sym s.both) (lines-said desk (ended [] input) (begun [] input) s.numbers s.text s.last s.number s.later s.due s.at_end)

-- ---- buffers
pub goes_on : GoesOn
goes_on st chunk out out' x f enough more =
    elim (dec_lt 0 x.used) [
      | yes h ↦ h
      | no h ↦
          let None : x.used ≡ 0 = omega (arith, h) in
          let full = f.full (omega arith) in
          let nothing : DueToAll st.stage [] f.numbers f.text x.state.stage = subst (λ (n : ℕ). DueToAll st.stage (ended (line_of st) (take n chunk)) f.numbers f.text x.state.stage) None f.due in
          let wrote : x.wrote ≡ 0 = f.wrote ∙ ap length nothing.1 in
          let due = subst (λ (g : Stage). Due g (all_but_last (line_of x.state)) full.number full.text) nothing.2 full.due in
          absurd (omega (arith, wrote, full.no_room, (due-small st.stage (all_but_last (line_of x.state)) full.number full.text due).text))
    ]

pub end_fits : EndFits
end_fits st out out' x (n, t, due, placed) enough e =
    let small = at_end_small st.stage (line_of st) n t due in
    let written : (x ≡ record { code = n; wrote = length t }) × (out' ≡ t ++ drop (length t) out) = rw (le-leb (length t) (length out) (omega (arith, small.text))) at placed in
    let code : x.code ≡ n = ap (λ (x : LineAnswer). x.code) written.0 in
    small.number (sym code ∙ e)

pub enough-room : EnoughRoom
enough-room (Header Launch) = omega arith
enough-room (Header Bench) = omega arith
enough-room (Rows kind.Readings) = omega arith
enough-room (Rows kind.Records) = omega arith
enough-room (Rows kind.Resistances) = omega arith
enough-room (Rows kind.Steps) = omega arith
enough-room (Rows kind.Tolerances) = omega arith
enough-room Stopped = omega arith
