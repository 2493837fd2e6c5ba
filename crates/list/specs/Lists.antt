-- The answer to a list: from all bytes of the input to all bytes of the output.
use Rattle.std.specs.Prelude.{◌≡◌, List, [], ◌∷◌, ◌++◌, ℕ, Option, None, Some}
use Rattle.lines.specs.Lines.{lines}
use Rattle.line.specs.Kinds.{output_header, Answered}
use Rattle.list.specs.declared.kinds.Kind.{Kind}
use Rattle.list.specs.declared.kinds.Desk.{Desk}
use Rattle.list.specs.Kinds.{kind_of, headed, wrong_header}

-- To each line after the header, its answer.
abbrev pub RowsAnswered : Kind → List (List ℕ) → List ℕ → Type 0
RowsAnswered k [] output = output ≡ []
RowsAnswered k (line ∷ others) output =
    (number : ℕ) × (text : List ℕ) × (rest : List ℕ) × Answered (kind_of k) line number text × RowsAnswered k others rest × (output ≡ text ++ rest)

-- To the header of a kind, its output's header, and then the answers to the other lines.
abbrev pub HeaderAnswered : Desk → Option Kind → List (List ℕ) → List ℕ → Type 0
HeaderAnswered desk None others output = output ≡ wrong_header desk
HeaderAnswered desk (Some k) others output = (rest : List ℕ) × RowsAnswered k others rest × (output ≡ output_header (kind_of k) ++ rest)

abbrev pub LinesAnswered : Desk → List (List ℕ) → List ℕ → Type 0
LinesAnswered desk [] output = output ≡ wrong_header desk
LinesAnswered desk (header ∷ others) output = HeaderAnswered desk (headed desk header) others output

abbrev pub ListAnswered : Desk → List ℕ → List ℕ → Type 0
ListAnswered desk input output = LinesAnswered desk (lines input) output
