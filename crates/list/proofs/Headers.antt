-- Headers are short.
use native.Mathlib.Omega.{arith}
use Prim.Native.Nat.{◌≤◌}
use lib.ListN.{length}
use Rattle.text.specs.Columns.{longest_line}
use Rattle.line.specs.Kinds.{input_header, output_header}
use Rattle.list.specs.declared.kinds.Kind.{Kind}
use Rattle.list.specs.declared.kinds.Kind.TheVariants.{Readings, Records, Resistances, Steps, Tolerances}
use Rattle.list.specs.declared.kinds.Desk.{Desk}
use Rattle.list.specs.declared.kinds.Desk.TheVariants.{Launch, Bench}
use Rattle.list.specs.Kinds.{kind_of, room}

pub headers_short : (k : Kind) → length (input_header (kind_of k)) ≤ longest_line
headers_short Readings = omega arith
headers_short Records = omega arith
headers_short Resistances = omega arith
headers_short Steps = omega arith
headers_short Tolerances = omega arith

-- every header of an answer is shorter than a reading's room
short_reply : (k : Kind) → length (output_header (kind_of k)) ≤ 38
short_reply Readings = omega arith
short_reply Records = omega arith
short_reply Resistances = omega arith
short_reply Steps = omega arith
short_reply Tolerances = omega arith

pub header_short : (desk : Desk) (k : Kind) → length (output_header (kind_of k)) ≤ room desk
header_short Launch k = omega (arith, short_reply k)
header_short Bench k = omega (arith, short_reply k)
