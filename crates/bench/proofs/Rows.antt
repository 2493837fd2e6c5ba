-- What is written of a record's answer is the answer to its row.
use Rattle.std.specs.Prelude.{Err, Ok, Result, Option}
use mathlib.Core.Path.{◌≡◌}
use mathlib.Core.Bool.{true}
use mathlib.Core.List.{List}
use Prim.Native.Nat.{ℕ}
use lib.ListN.{take}
use Rattle.quantity.specs.Outcomes.{Rule, Follows}
use Rattle.quantity.specs.declared.refusal.Refusal.{Refusal}
use Rattle.certificate.specs.declared.soundness.Certificate.{Certificate}
use Rattle.certificate.specs.Certificate.{LawAndPlaces, no_places, held, stated}
use Rattle.text.specs.Columns.{Column, Value, well_formed, values}
use Rattle.text.proofs.Names.{Repeated}
use Rattle.line.specs.declared.lent.LineAnswer.{LineAnswer}
use Rattle.line.specs.Lent.{AnsweredAs}
use Rattle.line.proofs.Answers.{placed-answered, placed-refused}
use Rattle.bench.specs.Certificates.{certificates, CertificatePlaced}

pub certificate_answered : (columns : List Column) (rule : List Value → Rule LawAndPlaces) (line out out' : List ℕ) (x : Option LineAnswer) → well_formed columns line ≡ true
    → (n : ℕ) → Repeated line n → (a : Result Certificate Refusal) → Follows (rule (values columns line)) (stated a) → CertificatePlaced a (take n line) out out' x
    → AnsweredAs (certificates columns rule) line out out' x
certificate_answered columns rule line out out' x w n names (Ok k) f p = placed-answered (certificates columns rule) line out out' x w n names (held k) f p
certificate_answered columns rule line out out' x w n names (Err why) f p = placed-refused (certificates columns rule) line out out' x w n names no_places why f p
