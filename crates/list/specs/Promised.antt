-- What is promised of lists besides each call's own outcome.
use Rattle.std.specs.Prelude.{◌≡◌, List, ℕ, ◌≤◌, ◌<◌, length}
use Rattle.quantity.specs.Refusals.{number_of}
use Rattle.quantity.specs.declared.refusal.Refusal.TheVariants.{BufferShort}
use Rattle.text.specs.Fields.{fields}
use Rattle.line.specs.declared.lent.LineAnswer.{LineAnswer}
use Rattle.line.specs.Kinds.{input_header}
use Rattle.list.specs.declared.kinds.Kind.{Kind}
use Rattle.list.specs.declared.kinds.Desk.{Desk}
use Rattle.list.specs.declared.kinds.Desk.TheVariants.{Bench}
use Rattle.list.specs.declared.state.Stage.{Stage}
use Rattle.list.specs.declared.state.Stage.TheVariants.{Header, Rows, Stopped}
use Rattle.list.specs.declared.state.State.{State}
use Rattle.list.specs.declared.feeding.Fed.{Fed}
use Rattle.list.specs.Kinds.{kind_of, room_of, room}
use Rattle.list.specs.Lists.{ListAnswered}
use Rattle.list.specs.Feeding.{line_of, FedAs, EndedAs, Run}

-- The state before the first byte.
abbrev pub Start : Desk → State → Type 0
Start desk st = (st.count ≡ 0) × (st.stage ≡ Header desk)

-- However the input is cut and whatever the buffers: all that is written is the answer to the list.
abbrev pub EveryCutting : Type 0
EveryCutting = (desk : Desk) (st : State) (input output : List ℕ) → Start desk st → Run st input output → ListAnswered desk input output

-- A list has one answer.
abbrev pub OneList : Type 0
OneList = (desk : Desk) (input output output' : List ℕ) → ListAnswered desk input output → ListAnswered desk input output' → output ≡ output'

-- Two outcomes that feeding allows are one: bytes, counts, code, tally, stage, and what is held of the partial line.
pub record SameFed (out' out'' : List ℕ) (x y : Fed) : Type 0 where
  pub bytes : out' ≡ out''
  pub used : x.used ≡ y.used
  pub wrote : x.wrote ≡ y.wrote
  pub code : x.code ≡ y.code
  pub tally : x.tally ≡ y.tally
  pub stage : x.state.stage ≡ y.state.stage
  pub held : line_of x.state ≡ line_of y.state

abbrev pub OneFeeding : Type 0
OneFeeding = (st : State) (chunk out out' out'' : List ℕ) (x y : Fed) → FedAs st chunk out out' x → FedAs st chunk out out'' y → SameFed out' out'' x y

abbrev pub OneEnding : Type 0
OneEnding = (st : State) (out out' out'' : List ℕ) (x y : LineAnswer) → EndedAs st out out' x → EndedAs st out out'' y → (out' ≡ out'') × (x ≡ y)

-- So many bytes hold every answer at a stage: those of the desk before the header, those of the kind after it.
abbrev pub room_at : Stage → ℕ
room_at (Header desk) = room desk
room_at (Rows k) = room_of k
room_at Stopped = 0

-- A buffer that holds any answer line is enough: a chunk goes on, and the end is written.
abbrev pub GoesOn : Type 0
GoesOn = (st : State) (chunk out out' : List ℕ) (x : Fed) → FedAs st chunk out out' x → room_at st.stage ≤ length out → 0 < length chunk → 0 < x.used

abbrev pub EndFits : Type 0
EndFits = (st : State) (out out' : List ℕ) (x : LineAnswer) → EndedAs st out out' x → room_at st.stage ≤ length out → x.code ≡ number_of BufferShort → ⊥

-- The bench's room is enough at every stage.
abbrev pub EnoughRoom : Type 0
EnoughRoom = (stage : Stage) → room_at stage ≤ room Bench

-- The header of a list has as many fields as a row has columns.
abbrev pub HeaderFields : Type 0
HeaderFields = (k : Kind) → length (fields (input_header (kind_of k))) ≡ length (kind_of k).columns
