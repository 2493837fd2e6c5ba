-- The scope document's own list, and lines at the edges, byte for byte, which the checker computes.
use mathlib.Core.Path.{◌≡◌, refl}
use mathlib.Core.Bool.{true}
use mathlib.Core.List.{List, [], ◌∷◌}
use native.Mathlib.Omega.{arith}
use Prim.Native.Nat.{ℕ}
use Prim.Native.Char.{code}
use lib.IntN.{pos}
use lib.ListN.{length, replicate}
use Rattle.whole.specs.Text.{ascii}
use Rattle.exact.specs.Polynomial.{rounded}
use Rattle.law.specs.declared.laws.Law.TheVariants.{Curve, Scale}
use Rattle.law.specs.declared.subrange.Subrange.TheVariants.{Ag}
use Rattle.law.specs.Answers.{no_step}
use Rattle.quantity.specs.Outcomes.{refused, Follows}
use Rattle.deviation.specs.Limits.{x, δ, keeps}
use Rattle.reference.specs.Reference.{working}
use Rattle.curve.specs.Curve.{exact, quadratic, quartic, units}
use Rattle.deviation.specs.Working.{plain_deviation, has_d_term, z, d_term, deviation, Wr}
use Rattle.reading.specs.Reading.{read_given_up_to, read_given}
use Rattle.reading.proofs.Tests.{step-passes}
use Rattle.reading.proofs.Values.{zeros, given, at}
use Rattle.law.specs.Names.{spelled}
use Rattle.text.specs.Decimal.{decimal}
use Rattle.text.specs.Columns.{well_formed, fault_by, fault_of, values}
use Rattle.row.specs.Limits.{limits_before}
use Rattle.line.specs.Kinds.{Answered}
use Rattle.line.specs.Readings.{readings_up_to, readings}
use Rattle.line.proofs.Widening.{readings-raised}
use Rattle.bench.specs.Certificates.{records}
use Rattle.bench.specs.Tolerances.{tolerances}
use Rattle.text.proofs.Decimals.{decimal-one, decimal_more}
use Rattle.list.specs.declared.kinds.Desk.TheVariants.{Launch, Bench}
use Rattle.list.specs.Kinds.{headed}
use Rattle.list.specs.Lists.{ListAnswered}

read_f1 : Follows (read_given (given (spelled "curve") 0) 138_505_500_000 100_000_000_000) (at Curve (pos 1_000_000))
unfolding exact quadratic quartic units
read_f1 = step-passes Curve (zeros 0) 1_385_055_000 (pos 1_000_000) refl

read_f2 : Follows (read_given (given (spelled "ag") 3_376_008_600) 69_539_313_500 25_000_000_000) (at (Scale Ag) (pos 4_810_000))
unfolding working rounded Wr deviation plain_deviation d_term has_d_term z x δ keeps
read_f2 = step-passes (Scale Ag) (zeros 3_376_008_600) 2_781_572_540 (pos 4_810_000) refl

read_f3 : Follows (read_given (given (spelled "zn") 0) 69_539_313_500 25_000_000_000) (refused no_step 9)
unfolding working rounded Wr deviation plain_deviation d_term has_d_term z x
read_f3 = refl

F1 : List ℕ
F1 = ascii "F1,curve,138505500000,100000000000,0,0,0,0,0"

F2 : List ℕ
F2 = ascii "F2,ag,69539313500,25000000000,0,0,0,0,3376008600"

F3 : List ℕ
F3 = ascii "F3,zn,69539313500,25000000000,0,0,0,0,0"

digits_of_f1 : decimal 1_000_000 ≡ ascii "1000000"
digits_of_f1 = rw (decimal_more 1_000_000 (omega arith), decimal_more 100_000 (omega arith), decimal_more 10_000 (omega arith), decimal_more 1_000 (omega arith), decimal_more 100 (omega arith), decimal_more 10 (omega arith), decimal-one 1 (omega arith))

digits_of_f2 : decimal 4_810_000 ≡ ascii "4810000"
digits_of_f2 = rw (decimal_more 4_810_000 (omega arith), decimal_more 481_000 (omega arith), decimal_more 48_100 (omega arith), decimal_more 4_810 (omega arith), decimal_more 481 (omega arith), decimal_more 48 (omega arith), decimal-one 4 (omega arith))

answer-F1 : Answered readings F1 0 (ascii "F1,curve,1000000,0\r\n")
unfolding F1 well_formed fault_of fault_by values
answer-F1 = (at Curve (pos 1_000_000), read_f1, refl, rw (digits_of_f1, decimal-one 0 (omega arith)))

answer-F2 : Answered readings F2 0 (ascii "F2,ag,4810000,0\r\n")
unfolding F2 well_formed fault_of fault_by values
answer-F2 = (at (Scale Ag) (pos 4_810_000), read_f2, refl, rw (digits_of_f2, decimal-one 0 (omega arith)))

answer-F3 : Answered readings F3 9 (ascii "F3,zn,,9\r\n")
unfolding F3 well_formed fault_of fault_by values
answer-F3 = (refused no_step 9, read_f3, refl, rw (decimal-one 9 (omega arith)))

pub example : ListAnswered Launch
    (ascii "id,law,r,r0,a,b,c,d,wal\r\nF1,curve,138505500000,100000000000,0,0,0,0,0\r\nF2,ag,69539313500,25000000000,0,0,0,0,3376008600\r\nF3,zn,69539313500,25000000000,0,0,0,0,0\r\n")
    (ascii "id,law,t,code\r\nF1,curve,1000000,0\r\nF2,ag,4810000,0\r\nF3,zn,,9\r\n")
unfolding F1 F2 F3 headed
example = (
  ascii "F1,curve,1000000,0\r\nF2,ag,4810000,0\r\nF3,zn,,9\r\n",
  (
    0,
    ascii "F1,curve,1000000,0\r\n",
    ascii "F2,ag,4810000,0\r\nF3,zn,,9\r\n",
    answer-F1,
    (0, ascii "F2,ag,4810000,0\r\n", ascii "F3,zn,,9\r\n", answer-F2, (9, ascii "F3,zn,,9\r\n", [], answer-F3, refl, refl), refl),
    refl,
  ),
  refl,
)

-- no input at all, and a byte order mark before the header
pub empty : ListAnswered Launch [] (ascii "id,law,t,code\r\n?,?,,10\r\n")
unfolding decimal
empty = refl

pub marked : ListAnswered Launch (239 ∷ 187 ∷ 191 ∷ ascii "id,law,r,r0,a,b,c,d,wal\r\n") (ascii "id,law,t,code\r\n?,?,,10\r\n")
unfolding decimal headed
marked = refl

-- the header may be the last line
pub header_alone : ListAnswered Launch (ascii "id,law,r,r0,a,b,c,d,wal") (ascii "id,law,t,code\r\n")
unfolding headed
header_alone = ([], refl, refl)

-- the bench's headers, each by itself, and the launch's, which the bench does not know
pub of_records : ListAnswered Bench (ascii "id,subrange,hg,ga,in,sn,zn,al,ag\r\n") (ascii "id,law,a,b,c,d,wal,code\r\n")
unfolding headed
of_records = ([], refl, refl)

pub of_resistances : ListAnswered Bench (ascii "id,subrange,hg,hg0,ga,ga0,in,in0,sn,sn0,zn,zn0,al,al0,ag,ag0\r\n") (ascii "id,law,a,b,c,d,wal,code\r\n")
unfolding headed
of_resistances = ([], refl, refl)

pub of_steps : ListAnswered Bench (ascii "id,law,t,a,b,c,d,wal\r\n") (ascii "id,law,w,code\r\n")
unfolding headed
of_steps = ([], refl, refl)

pub of_tolerances : ListAnswered Bench (ascii "id,class,t,r,r0\r\n") (ascii "id,class,result,error,code\r\n")
unfolding headed
of_tolerances = ([], refl, refl)

pub of_the_launch : ListAnswered Bench (ascii "id,law,r,r0,a,b,c,d,wal\r\n") (ascii "id,law,a,b,c,d,wal,code\r\n?,?,,,,,,10\r\n")
unfolding decimal headed
of_the_launch = refl

-- ---- lines that are no rows
-- an empty line has one field; 201 commas are too many bytes, whatever they say; 200 are too many fields
pub empty_line : Answered readings [] 13 (ascii "?,?,,13\r\n")
unfolding fault_of fault_by decimal
empty_line = (refl, refl)

pub long_line : Answered readings (replicate 201 (code ",")) 12 (ascii "?,?,,12\r\n")
unfolding fault_of fault_by decimal
long_line = (refl, refl)

pub commas : Answered readings (replicate 200 (code ",")) 13 (ascii "?,?,,13\r\n")
unfolding fault_of fault_by decimal
commas = (refl, refl)

-- a leading zero in a; a point in r and a leading zero in a; a lone CR in the last field
pub leading-zero : Answered readings (ascii "F1,ag,69539313500,25000000000,07,0,0,0,3376008600") 14 (ascii "?,?,5,14\r\n")
unfolding fault_of fault_by decimal
leading-zero = (refl, refl)

pub two_broken : Answered readings (ascii "F1,ag,69.5,25000000000,07,0,0,0,3376008600") 14 (ascii "?,?,3,14\r\n")
unfolding fault_of fault_by decimal
two_broken = (refl, refl)

pub lone_return : Answered readings (ascii "F1,curve,138505500000,100000000000,0,0,0,0,0\r") 14 (ascii "?,?,9,14\r\n")
unfolding fault_of fault_by decimal
lone_return = (refl, refl)

-- the same among records and tolerance tests
pub of_a_record : Answered records (ascii "P1,zn,0,1118119605,x,1892645942,2568644990,0,0") 14 (ascii "?,?,5,,,,,14\r\n")
unfolding fault_of fault_by decimal
of_a_record = (refl, refl)

pub of_a_test : Answered tolerances (ascii "S1,A,0,0100,100000000000") 14 (ascii "?,?,4,,14\r\n")
unfolding fault_of fault_by decimal
of_a_test = (refl, refl)

-- ---- what request 9 moved
-- a Pt1000 at 100 °C, over 1 kΩ: 1 before, and read now
abbrev Pt1000 : List ℕ
Pt1000 = ascii "P1,curve,1385055000000,1000000000000,0,0,0,0,0"

pub was_outside : Answered (readings_up_to limits_before) Pt1000 1 (ascii "P1,curve,,1\r\n")
unfolding fault_of fault_by values
was_outside = (refused no_step 1, refl, refl, rw (decimal-one 1 (omega arith)))

read_pt1000 : Follows (read_given (given (spelled "curve") 0) 1_385_055_000_000 1_000_000_000_000) (at Curve (pos 1_000_000))
unfolding exact quadratic quartic units
read_pt1000 = step-passes Curve (zeros 0) 1_385_055_000 (pos 1_000_000) refl

pub is_read : Answered readings Pt1000 0 (ascii "P1,curve,1000000,0\r\n")
unfolding fault_of fault_by values
is_read = (at Curve (pos 1_000_000), read_pt1000, refl, rw (digits_of_f1, decimal-one 0 (omega arith)))

-- both at 1 kΩ, the limit that was: read before, and so still
at_zero : Follows (read_given_up_to limits_before.largest (given (spelled "curve") 0) 1_000_000_000_000 1_000_000_000_000) (at Curve (pos 0))
unfolding exact quadratic quartic units
at_zero = step-passes Curve (zeros 0) 1_000_000_000 (pos 0) refl

abbrev ice : List ℕ
ice = ascii "P1,curve,1000000000000,1000000000000,0,0,0,0,0"

pub was_read : Answered (readings_up_to limits_before) ice 0 (ascii "P1,curve,0,0\r\n")
unfolding fault_of fault_by values
was_read = (at Curve (pos 0), at_zero, refl, rw (decimal-one 0 (omega arith)))

pub still_read : Answered readings ice 0 (ascii "P1,curve,0,0\r\n")
still_read = readings-raised.stays ice 0 (ascii "P1,curve,0,0\r\n") was_read refl

-- both at 10 kΩ, the limit: field 3 before, and read now
abbrev both_largest : List ℕ
both_largest = ascii "P1,curve,10000000000000,10000000000000,0,0,0,0,0"

pub was_no_row : Answered (readings_up_to limits_before) both_largest 14 (ascii "?,?,3,14\r\n")
unfolding fault_of fault_by decimal
was_no_row = (refl, refl)

read_largest : Follows (read_given (given (spelled "curve") 0) 10_000_000_000_000 10_000_000_000_000) (at Curve (pos 0))
unfolding exact quadratic quartic units
read_largest = step-passes Curve (zeros 0) 1_000_000_000 (pos 0) refl

pub largest_read : Answered readings both_largest 0 (ascii "P1,curve,0,0\r\n")
unfolding fault_of fault_by values
largest_read = (at Curve (pos 0), read_largest, refl, rw (decimal-one 0 (omega arith)))

-- a nanoohm more: field 3 before, and 1 now
pub past_largest : Answered readings (ascii "P1,curve,10000000000001,10000000000000,0,0,0,0,0") 1 (ascii "P1,curve,,1\r\n")
unfolding fault_of fault_by values
past_largest = (refused no_step 1, refl, refl, rw (decimal-one 1 (omega arith)))

-- r of 14 digits and r0 of 15: field 3 before, and field 4 now
abbrev long-resistances : List ℕ
long-resistances = ascii "P1,curve,10000000000000,100000000000000,0,0,0,0,0"

pub was_field_3 : Answered (readings_up_to limits_before) long-resistances 14 (ascii "?,?,3,14\r\n")
unfolding fault_of fault_by decimal
was_field_3 = (refl, refl)

pub is_field_4 : Answered readings long-resistances 14 (ascii "?,?,4,14\r\n")
unfolding fault_of fault_by decimal
is_field_4 = (refl, refl)

-- 14 digits are too many for a, as they were
pub long-a : Answered readings (ascii "P1,curve,1385055000000,1000000000000,-10000000000000,0,0,0,0") 14 (ascii "?,?,5,14\r\n")
unfolding fault_of fault_by decimal
long-a = (refl, refl)

-- a row of 129 bytes, than which none is longer
abbrev longest-line : List ℕ
longest-line = ascii "ABCDEFGHIJKLMNOP,abcdefgh,99999999999999,99999999999999,-9999999999999,-9999999999999,-9999999999999,-9999999999999,9999999999999"

pub longest_row : (length longest-line ≡ 129) × (well_formed readings.columns longest-line ≡ true)
unfolding well_formed fault_of fault_by
longest_row = (refl, refl)
