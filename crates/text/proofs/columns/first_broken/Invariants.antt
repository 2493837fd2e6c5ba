use lib.ListN.{drop}
use Prim.Native.Nat.{◌+◌}
use mathlib.Core.Path.{◌≡◌}
use Rattle.text.specs.Scanned.{first_lost}
use Rattle.text.proofs.columns.first_broken.Given as goal

-- `text::columns::first_broken` meets its contract: the fields before the next one keep their rules, so the first that does not is among those from it on.
abbrev pub invariant-loop-kept : goal.invariant-loop-kept
invariant-loop-kept l = first_lost l.line 1 l.columns 0 ≡ first_lost l.line (l.kept + 1) (drop l.kept l.columns) l.from
