use mathlib.Core.Path.{◌≡◌, refl, sym, subst}
use Rattle.whole.specs.Text.{ascii}
use Rattle.line.specs.Kinds.{output_header}
use Rattle.list.specs.declared.kinds.Kind.{Kind}
use Rattle.list.specs.Kinds.{kind_of}
use Rattle.list.proofs.kinds.Kind.answer_header.Goals as goal

pub returns-in-Readings : goal.returns-in-Readings
returns-in-Readings c = subst (λ (k : Kind). ascii "id,law,t,code\r\n" ≡ output_header (kind_of k)) (sym c.in-Readings.is) refl

pub returns-in-Records : goal.returns-in-Records
returns-in-Records c = subst (λ (k : Kind). ascii "id,law,a,b,c,d,wal,code\r\n" ≡ output_header (kind_of k)) (sym c.in-Records.is) refl

pub returns-in-Resistances : goal.returns-in-Resistances
returns-in-Resistances c = subst (λ (k : Kind). ascii "id,law,a,b,c,d,wal,code\r\n" ≡ output_header (kind_of k)) (sym c.in-Resistances.is) refl

pub returns-in-Steps : goal.returns-in-Steps
returns-in-Steps c = subst (λ (k : Kind). ascii "id,law,w,code\r\n" ≡ output_header (kind_of k)) (sym c.in-Steps.is) refl

pub returns-in-Tolerances : goal.returns-in-Tolerances
returns-in-Tolerances c = subst (λ (k : Kind). ascii "id,class,result,error,code\r\n" ≡ output_header (kind_of k)) (sym c.in-Tolerances.is) refl
