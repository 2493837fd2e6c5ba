-- A list has one answer, and feeding and ending promise one outcome.
use mathlib.Core.Path.{◌≡◌, sym, ap, ap₂, ◌∙◌, subst}
use mathlib.Core.Bool.{true}
use Rattle.std.specs.Prelude.{Option, None, Some}
use mathlib.Core.List.{List, [], ◌∷◌, ◌++◌}
use Prim.Native.Nat.{ℕ, suc, ◌+◌, ◌-◌, ◌≤◌, ◌<◌}
use native.Mathlib.Decide.{dec_lt}
use native.Mathlib.Omega.{arith}
use lib.Dec.{leb}
use lib.ListN.{length, get_or, take, drop}
use lib.Seq.{take-add, drop-cons}
use Rattle.whole.proofs.Choice.{if_both}
use Rattle.line.specs.Kinds.{output_header}
use Rattle.list.specs.declared.kinds.Kind.{Kind}
use Rattle.list.specs.declared.kinds.Desk.{Desk}
use Rattle.line.specs.declared.lent.LineAnswer.{LineAnswer}
use Rattle.line.specs.Lent.{Placed}
use Rattle.list.specs.declared.state.State.{State}
use Rattle.list.specs.declared.feeding.Fed.{Fed}
use Rattle.lines.specs.Lines.{all_but_last, ends_line, ended, begun, lines}
use Rattle.list.specs.Kinds.{kind_of, headed}
use Rattle.list.specs.Lists.{RowsAnswered, HeaderAnswered, LinesAnswered}
use Rattle.lines.specs.Held.{capped}
use Rattle.list.specs.Tallies.{tally_of}
use Rattle.list.specs.Feeding.{Due, DueToAll, line_of, code_of, FedAs}
use Rattle.list.specs.Promised.{OneList, OneFeeding, OneEnding}
use Rattle.lines.proofs.Lines.{ended-append}
use Rattle.lines.proofs.Capped.{capped-ends}
use Rattle.list.proofs.Capped.{capped-front}
use Rattle.list.proofs.OfKinds.{kept_of}
use Rattle.list.proofs.Dues.{due-within, all_unique, at_end_unique}

-- ---- lists
rows_unique : (k : Kind) (others : List (List ℕ)) (o o' : List ℕ) → RowsAnswered k others o → RowsAnswered k others o' → o ≡ o'
rows_unique k [] o o' h i = h ∙ sym i
rows_unique k (line ∷ others) o o' (n, t, rest, h, more, e) (n', t', rest', h', more', e') =
    e ∙ ap₂ (λ (x : List ℕ) (y : List ℕ). x ++ y) ((kept_of k).one line n n' t t' h h').1 (rows_unique k others rest rest' more more') ∙ sym e'

header_unique : (desk : Desk) (k : Option Kind) (others : List (List ℕ)) (o o' : List ℕ) → HeaderAnswered desk k others o → HeaderAnswered desk k others o' → o ≡ o'
header_unique desk None others o o' h i = h ∙ sym i
header_unique desk (Some k) others o o' (rest, h, e) (rest', h', e') = e ∙ ap (λ (x : List ℕ). output_header (kind_of k) ++ x) (rows_unique k others rest rest' h h') ∙ sym e'

lines_unique : (desk : Desk) (ls : List (List ℕ)) (o o' : List ℕ) → LinesAnswered desk ls o → LinesAnswered desk ls o' → o ≡ o'
lines_unique desk [] o o' h k = h ∙ sym k
lines_unique desk (header ∷ others) o o' h k = header_unique desk (headed desk header) others o o' h k

pub one_list : OneList
one_list desk input output output' h k = lines_unique desk (lines input) output output' h k

-- ---- the end of the input
placed_unique : (n : ℕ) (t out out' out'' : List ℕ) (x y : LineAnswer) → Placed n t out out' x → Placed n t out out'' y → (out' ≡ out'') × (x ≡ y)
placed_unique n t out out' out'' x y h k =
    if_both (leb (length t) (length out)) h k (λ p q. (p.1 ∙ sym q.1, p.0 ∙ sym q.0)) (λ p q. (p.1 ∙ sym q.1, p.0 ∙ sym q.0))

pub one_ending : OneEnding
one_ending st out out' out'' x y (n, t, due, placed) (n', t', due', placed') =
    let one = at_end_unique st.stage (line_of st) n n' t t' due due' in
    placed_unique n t out out' out'' x y placed (rw (one.0, one.1) placed')

-- ---- feeding
-- No feeding uses less than another: a line for which it had no room ends within what the other used.
no_less : (st : State) (chunk out out' out'' : List ℕ) (x y : Fed) → FedAs st chunk out out' x → FedAs st chunk out out'' y → x.used < y.used → ⊥
no_less st chunk out out' out'' x y f g h =
    let inside : x.used < length chunk = omega (arith, g.within) in
    let full = f.full inside in
    let b : ℕ = get_or chunk x.used 0 in
    let fed : List ℕ = take x.used chunk in
    let line : List ℕ = begun (line_of st) fed in
    let more : ℕ = y.used - suc x.used in
    let rest : List ℕ = take more (drop (suc x.used) chunk) in
    let count : y.used ≡ x.used + suc more = omega arith in
    let cut : take y.used chunk ≡ fed ++ (b ∷ rest) =
    ap (λ (n : ℕ). take n chunk) count ∙ take-add x.used (suc more) chunk ∙ ap (λ (s : List ℕ). fed ++ take (suc more) s) (drop-cons chunk x.used 0 inside) in
    let ends : ends_line line b ≡ true = sym (capped-ends line b) ∙ ap (λ (l : List ℕ). ends_line l b) (sym f.held) ∙ full.ends in
    let all : ended (line_of st) (take y.used chunk) ≡ ended (line_of st) fed ++ (all_but_last line ∷ ended [] rest) =
    ap (ended (line_of st)) cut ∙ ended-append (line_of st) fed (b ∷ rest) ∙ rw ends in
    let due : Due x.state.stage (all_but_last line) full.number full.text =
    capped-front line x.state.stage full.number full.text (subst (λ (l : List ℕ). Due x.state.stage (all_but_last l) full.number full.text) f.held full.due) in
    let most : length f.text + length full.text ≤ length g.text =
    due-within st.stage x.state.stage y.state.stage (ended (line_of st) fed) (ended [] rest) (all_but_last line) f.numbers g.numbers f.text full.text g.text full.number f.due due
    (subst (λ (ls : List (List ℕ)). DueToAll st.stage ls g.numbers g.text y.state.stage) all g.due) in
    omega (arith, most, f.wrote, g.fits, full.no_room)

pub one_feeding : OneFeeding
one_feeding st chunk out out' out'' x y f g =
    let used : x.used ≡ y.used =
    elim (dec_lt x.used y.used) [
      | yes h ↦ absurd (no_less st chunk out out' out'' x y f g h)
      | no h ↦ elim (dec_lt y.used x.used) [ yes k ↦ absurd (no_less st chunk out out'' out' y x g f k) | no k ↦ omega (arith, h, k) ]
    ] in
    let one = all_unique st.stage (ended (line_of st) (take x.used chunk)) f.numbers g.numbers f.text g.text x.state.stage y.state.stage f.due
    (subst (λ (n : ℕ). DueToAll st.stage (ended (line_of st) (take n chunk)) g.numbers g.text y.state.stage) (sym used) g.due) in
    record {
      bytes = f.written ∙ ap (λ (t : List ℕ). t ++ drop (length t) out) one.text ∙ sym g.written;
      used = used;
      wrote = f.wrote ∙ ap length one.text ∙ sym g.wrote;
      code = f.code ∙ ap (λ (n : ℕ). code_of n (length chunk)) used ∙ sym g.code;
      tally = f.tally ∙ ap tally_of one.numbers ∙ sym g.tally;
      stage = one.stage;
      held = f.held ∙ ap (λ (n : ℕ). capped (begun (line_of st) (take n chunk))) used ∙ sym g.held;
    }
