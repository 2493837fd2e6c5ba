-- A list that comes in chunks.
use Rattle.std.specs.Prelude.{◌≡◌, true, List, [], ◌∷◌, ◌++◌, ℕ, ◌+◌, ◌≤◌, ◌<◌, ltb, length, get_or, take, drop, Option, None, Some}
use Rattle.whole.specs.Choice.{if◌then◌otherwise◌}
use Rattle.quantity.specs.Refusals.{number_of}
use Rattle.quantity.specs.declared.refusal.Refusal.TheVariants.{WrongHeader, BufferShort}
use Rattle.line.specs.declared.lent.LineAnswer.{LineAnswer}
use Rattle.line.specs.Kinds.{output_header, Answered}
use Rattle.line.specs.Lent.{Placed}
use Rattle.list.specs.declared.kinds.Kind.{Kind}
use Rattle.list.specs.declared.kinds.Desk.{Desk}
use Rattle.list.specs.declared.state.Stage.{Stage}
use Rattle.list.specs.declared.state.Stage.TheVariants.{Header, Rows, Stopped}
use Rattle.list.specs.declared.state.State.{State}
use Rattle.list.specs.declared.feeding.Fed.{Fed}
use Rattle.lines.specs.Lines.{all_but_last, ends_line, ended, begun}
use Rattle.lines.specs.Held.{capped}
use Rattle.list.specs.Kinds.{kind_of, headed, wrong_header}
use Rattle.list.specs.Tallies.{tally_of}

-- The number and the text that are due to a header: by the kind of list that it names.
abbrev pub HeaderDue : Desk → Option Kind → ℕ → List ℕ → Type 0
HeaderDue desk None number text = (number ≡ number_of WrongHeader) × (text ≡ wrong_header desk)
HeaderDue desk (Some k) number text = (number ≡ 0) × (text ≡ output_header (kind_of k))

-- The number and the text that are due to a line: as the header, after the header, and after a wrong one, where nothing is read any more.
abbrev pub Due : Stage → List ℕ → ℕ → List ℕ → Type 0
Due (Header desk) line number text = HeaderDue desk (headed desk line) number text
Due (Rows k) line number text = Answered (kind_of k) line number text
Due Stopped line number text = (number ≡ 0) × (text ≡ [])

-- What comes after a line.
abbrev pub after_header : Option Kind → Stage
after_header None = Stopped
after_header (Some k) = Rows k

abbrev pub next : Stage → List ℕ → Stage
next (Header desk) line = after_header (headed desk line)
next (Rows k) line = Rows k
next Stopped line = Stopped

-- The numbers and the text that are due to lines one after the other, and the stage after them.
abbrev pub DueToAll : Stage → List (List ℕ) → List ℕ → List ℕ → Stage → Type 0
DueToAll stage [] numbers text later = (numbers ≡ []) × (text ≡ []) × (later ≡ stage)
DueToAll stage (line ∷ others) numbers text later =
    (number : ℕ) × (first : List ℕ) × (more : List ℕ) × (rest : List ℕ) × Due stage line number first × DueToAll (next stage line) others more rest later
    × (numbers ≡ number ∷ more) × (text ≡ first ++ rest)

-- What is due to no line: before the header that is a wrong header.
abbrev pub DueToNone : Stage → ℕ → List ℕ → Type 0
DueToNone (Header desk) number text = (number ≡ number_of WrongHeader) × (text ≡ wrong_header desk)
DueToNone (Rows k) number text = (number ≡ 0) × (text ≡ [])
DueToNone Stopped number text = (number ≡ 0) × (text ≡ [])

-- What is due where the input ends. The partial line is the last line; an empty one is no line.
abbrev pub DueAtEnd : Stage → List ℕ → ℕ → List ℕ → Type 0
DueAtEnd stage [] = DueToNone stage
DueAtEnd stage (b ∷ s) = Due stage (b ∷ s)

-- What is held of the partial line, of which there may be more.
abbrev pub line_of : State → List ℕ
line_of st = take st.count st.held

-- Why bytes of a chunk are left: the next byte ends a line whose answer the buffer has no room for.
pub record Full (st : State) (b wrote bytes : ℕ) : Type 0 where
  pub ends : ends_line (line_of st) b ≡ true
  pub number : ℕ
  pub text : List ℕ
  pub due : Due st.stage (all_but_last (line_of st)) number text
  pub no_room : bytes < wrote + length text

-- The code of a feeding: 11 where bytes of the chunk are left, else 0.
abbrev pub code_of : ℕ → ℕ → ℕ
code_of used bytes = if ltb used bytes then number_of BufferShort otherwise 0

-- What feeding a chunk promises, `out` being the lent buffer before and `out'` after. So many bytes of the chunk are used. What is due to the lines that end
-- within them is written at the start of the buffer, and its other bytes stay; the tally is that of those lines. The new state has the stage after them and
-- holds, as far as it is held, the partial line after them. All bytes are used and the code is 0, unless the next byte ends a line whose answer the buffer has no
-- room for: then the code is 11.
pub record FedAs (st : State) (chunk out out' : List ℕ) (x : Fed) : Type 0 where
  pub within : x.used ≤ length chunk
  pub numbers : List ℕ
  pub text : List ℕ
  pub due : DueToAll st.stage (ended (line_of st) (take x.used chunk)) numbers text x.state.stage
  pub wrote : x.wrote ≡ length text
  pub fits : length text ≤ length out
  pub written : out' ≡ text ++ drop (length text) out
  pub tally : x.tally ≡ tally_of numbers
  pub held : line_of x.state ≡ capped (begun (line_of st) (take x.used chunk))
  pub full : x.used < length chunk → Full x.state (get_or chunk x.used 0) x.wrote (length out)
  pub code : x.code ≡ code_of x.used (length chunk)

-- What ending the input promises: what is still due is written, with its number, or 11 and every byte stays.
abbrev pub EndedWith : Stage → List ℕ → List ℕ → List ℕ → LineAnswer → Type 0
EndedWith stage line out out' x = (number : ℕ) × (text : List ℕ) × DueAtEnd stage line number text × Placed number text out out' x

abbrev pub EndedAs : State → List ℕ → List ℕ → LineAnswer → Type 0
EndedAs st = EndedWith st.stage (line_of st)

-- A run from a state over the input to come, with all that it writes: chunks of any size are fed with buffers of any size, bytes that a feeding did not use are
-- fed again, and at the end of the input what is still due is written. After a wrong header a run may stop and leave the rest of the input unread.
pub data Run : State → List ℕ → List ℕ → Type 0 where
  finish : {st : State} (out out' : List ℕ) (x : LineAnswer) → EndedAs st out out' x → (x.code ≡ number_of BufferShort → ⊥) → Run st [] (take x.wrote out')
  feed : {st : State} {output : List ℕ} (chunk more out out' : List ℕ) (x : Fed) → FedAs st chunk out out' x
      → Run x.state (drop x.used chunk ++ more) output → Run st (chunk ++ more) (take x.wrote out' ++ output)
  stop : {st : State} (unread : List ℕ) → st.stage ≡ Stopped → Run st unread []
