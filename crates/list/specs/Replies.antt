-- What the inner functions of feeding answer; no promise to a caller rests on it.
use Rattle.std.specs.Prelude.{◌≡◌, List, [], ◌++◌, ℕ, ◌+◌, ◌≤◌, length, take, drop}
use Rattle.line.specs.Lent.{PlacedAs}
use Rattle.lines.specs.Lines.{ended, begun}
use Rattle.lines.specs.Held.{capped}
use Rattle.list.specs.declared.state.Stage.{Stage}
use Rattle.list.specs.declared.state.State.{State}
use Rattle.list.specs.declared.replies.Reply.{Reply}
use Rattle.list.specs.declared.feeding.Place.{Place}
use Rattle.list.specs.declared.feeding.Fed.{Fed}
use Rattle.list.specs.Tallies.{tally_of}
use Rattle.list.specs.Feeding.{Due, DueToAll, next, line_of, FedAs}

-- What answering a line at a stage promises.
abbrev pub RepliedAs : Stage → List ℕ → List ℕ → List ℕ → Reply → Type 0
RepliedAs stage line out out' x =
    (number : ℕ) × (text : List ℕ) × Due stage line number text × PlacedAs number text out out' x.answer × (x.stage ≡ next stage line)

-- A place lies within a chunk and a buffer, and no more lines have ended than bytes are used.
pub record Standing (chunk out : List ℕ) (p : Place) : Type 0 where
  pub used : p.used ≤ length chunk
  pub wrote : p.wrote ≤ length out
  pub lines : p.tally.lines ≤ p.used
  pub refused : p.tally.refused ≤ p.tally.lines
  pub faulty : p.tally.faulty ≤ p.tally.lines

-- Feeding from a state has come to a place between two lines: so much of the chunk is used, and what is due to the lines that ended is written and tallied; no
-- line is begun.
pub record At (st : State) (chunk out₀ out : List ℕ) (p : Place) : Type 0 where
  pub within : p.used ≤ length chunk
  pub numbers : List ℕ
  pub text : List ℕ
  pub due : DueToAll st.stage (ended (line_of st) (take p.used chunk)) numbers text p.stage
  pub nothing : begun (line_of st) (take p.used chunk) ≡ []
  pub wrote : p.wrote ≡ length text
  pub fits : length text ≤ length out₀
  pub bytes : out ≡ text ++ drop (length text) out₀
  pub tally : p.tally ≡ tally_of numbers

-- Feeding that ends at a place, with a part of the chunk after it held.
pub record HeldAs (p : Place) (part : List ℕ) (number : ℕ) (x : Fed) : Type 0 where
  pub stage : x.state.stage ≡ p.stage
  pub held : line_of x.state ≡ capped part
  pub used : x.used ≡ p.used + length part
  pub wrote : x.wrote ≡ p.wrote
  pub tally : x.tally ≡ p.tally
  pub code : x.code ≡ number

-- Feeding from a place on: whatever state and buffer it has come from.
abbrev pub FedOn : Place → List ℕ → List ℕ → List ℕ → Fed → Type 0
FedOn p chunk out out' x = (st : State) (out₀ : List ℕ) → At st chunk out₀ out p → FedAs st chunk out₀ out' x
