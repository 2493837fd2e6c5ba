-- The kinds of lists, which of them a desk takes, and by which header each is known.
use Rattle.std.specs.Prelude.{List, [], ◌∷◌, ◌++◌, ℕ, get_or, Option}
use Rattle.std.specs.List.{find}
use Rattle.std.specs.Str.{bytes_eq}
use Rattle.line.specs.Kinds as line
use Rattle.line.specs.Kinds.{input_header, output_header, wrong_header_line}
use Rattle.line.specs.Readings.{readings, reading_room}
use Rattle.bench.specs.Certificates.{records, resistances}
use Rattle.bench.specs.Forward.{steps}
use Rattle.bench.specs.Tolerances.{tolerances}
use Rattle.bench.specs.Rooms.{certificate_room, ratio_room, result_room}
use Rattle.list.specs.declared.kinds.Kind.{Kind}
use Rattle.list.specs.declared.kinds.Kind.TheVariants as kind
use Rattle.list.specs.declared.kinds.Desk.{Desk}
use Rattle.list.specs.declared.kinds.Desk.TheVariants.{Launch, Bench}

abbrev pub kind_of : Kind → line.Kind
kind_of kind.Readings = readings
kind_of kind.Records = records
kind_of kind.Resistances = resistances
kind_of kind.Steps = steps
kind_of kind.Tolerances = tolerances

-- What the launch takes, and what the bench does.
abbrev pub taken : Desk → List Kind
taken Launch = kind.Readings ∷ []
taken Bench = kind.Records ∷ kind.Resistances ∷ kind.Steps ∷ kind.Tolerances ∷ []

-- The kind that answers a wrong header: the first of them.
abbrev pub first_kind : Desk → Kind
first_kind desk = get_or (taken desk) 0 kind.Readings

-- The kind of list whose header a line is, if any.
unfoldable pub headed : Desk → List ℕ → Option Kind
headed desk line = find (λ kind. bytes_eq (input_header (kind_of kind)) line) (taken desk)

-- To a wrong header, none at all included, the output's header of the first kind and the line that says so.
abbrev pub wrong_header : Desk → List ℕ
wrong_header desk = output_header (kind_of (first_kind desk)) ++ wrong_header_line (kind_of (first_kind desk))

-- So many bytes hold every answer to a line of a kind.
abbrev pub room_of : Kind → ℕ
room_of kind.Readings = reading_room
room_of kind.Records = certificate_room
room_of kind.Resistances = certificate_room
room_of kind.Steps = ratio_room
room_of kind.Tolerances = result_room

-- And so many every answer of a desk, to a header too.
abbrev pub room : Desk → ℕ
room Launch = reading_room
room Bench = certificate_room
