-- What is promised of the register besides its answers. The call `import` ensures `ImportedAs`, `withdraw` ensures `WithdrawnAs` and `read` ensures
-- `ReadThrough`. By `ImportLeaves` and `WithdrawalLeaves`, what is said here of `import_refusal`, `imported`, `withdrawal_refusal` and `withdrawn` is said of every
-- use of the first two.
use Rattle.std.specs.Prelude.{◌≡◌, true, false, List, [], ◌∷◌, ℕ, ◌<◌, ◌≤◌, eqb, length, get_or, ◌≤ℤ◌, Some, Result, ⊤}
use Rattle.quantity.specs.Quantities.{ratio_of}
use Rattle.quantity.specs.Outcomes.{Outcome, Follows}
use Rattle.quantity.specs.Promised.{Widens}
use Rattle.law.specs.declared.laws.Law.TheVariants.{Scale}
use Rattle.law.specs.declared.subrange.Subrange.{Subrange}
use Rattle.law.specs.Subranges.{carried, law_named}
use Rattle.quantity.specs.declared.refusal.Refusal.{Refusal}
use Rattle.law.specs.declared.answer.Reading.{Reading}
use Rattle.law.specs.Answers.{LawAndStep, stated as read_as}
use Rattle.reading.specs.Reading.{read_given}
use Rattle.reading.specs.Promised.{Close}
use Rattle.entry.specs.declared.entry.Entry.{Entry}
use Rattle.entry.specs.declared.entry.Serial.{Serial}
use Rattle.entry.specs.Entry.{fault, is_free, is_live, free, joined, raised}
use Rattle.examination.specs.Answering.{stated as changed}
use Rattle.register.specs.Table.{entry_of, bad_table}
use Rattle.register.specs.Import.{short, import_refusal, imported, ImportedAs}
use Rattle.register.specs.Withdrawal.{withdrawal_refusal, withdrawn, WithdrawnAs}
use Rattle.register.specs.Reading.{read_through_up_to, ReadThrough}

-- A number names a thermometer where it is not 0.
abbrev pub Names : ℕ → Type 0
Names n = eqb n 0 ≡ false

-- ---- what the calls answer and leave
-- The number that an import gives is that of its tests, and the table that it leaves is `imported`.
abbrev pub ImportLeaves : Type 0
ImportLeaves =
    (table list : List Entry) (answer : Result ⊤ Refusal) (left : List Entry) → ImportedAs table list answer left
    → (changed answer ≡ import_refusal table list) × (left ≡ imported table list)

-- Those of a withdrawal are that of its tests and `withdrawn`.
abbrev pub WithdrawalLeaves : Type 0
WithdrawalLeaves =
    (table : List Entry) (n : ℕ) (serial : Serial) (answer : Result ⊤ Refusal) (left : List Entry) → WithdrawnAs table n serial answer left
    → (changed answer ≡ withdrawal_refusal table n) × (left ≡ withdrawn table n serial)

-- ---- refusals
-- An import or a withdrawal that is refused leaves the table as it was.
abbrev pub RefusedUnchanged : Type 0
RefusedUnchanged =
    ((table list : List Entry) → eqb (import_refusal table list) 0 ≡ false → imported table list ≡ table)
    × ((table : List Entry) (n : ℕ) (serial : Serial) → eqb (withdrawal_refusal table n) 0 ≡ false → withdrawn table n serial ≡ table)

-- A table that is not bad does not become so.
abbrev pub StaysGood : Type 0
StaysGood =
    ((table list : List Entry) → bad_table table ≡ false → bad_table (imported table list) ≡ false)
    × ((table : List Entry) (n : ℕ) (serial : Serial) → bad_table table ≡ false → bad_table (withdrawn table n serial) ≡ false)

-- ---- places
-- There are as many places, and what is not free at a place keeps its number there.
pub record Keeps (table left : List Entry) : Type 0 where
  pub as_many : length left ≡ length table
  pub stays : (place : ℕ) → is_free (get_or table place free) ≡ false → (get_or left place free).number ≡ (get_or table place free).number

-- The table keeps its places, and a thermometer stays at the one that it has.
abbrev pub KeepsPlaces : Type 0
KeepsPlaces =
    ((table list : List Entry) → Keeps table (imported table list))
    × ((table : List Entry) (n : ℕ) (serial : Serial) → Keeps table (withdrawn table n serial))

-- ---- imports
-- An accepted import leaves of each thermometer what the table had of it joined with what the list has of it; one that the list does not name keeps its entry.
abbrev pub ImportJoins : Type 0
ImportJoins =
    (table list : List Entry) (n : ℕ) → Names n → import_refusal table list ≡ 0
    → entry_of (imported table list) n ≡ joined (entry_of table n) (entry_of list n)

-- Import twice equals import once: the table is the same in every entry and place, and the second answer is the first.
abbrev pub TwiceIsOnce : Type 0
TwiceIsOnce =
    (table list : List Entry)
    → (imported (imported table list) list ≡ imported table list) × (import_refusal (imported table list) list ≡ import_refusal table list)

-- Where both orders accept both imports, both leave the same entry for each thermometer.
abbrev pub EitherOrder : Type 0
EitherOrder =
    (table one other : List Entry)
    → import_refusal table one ≡ 0 → import_refusal (imported table one) other ≡ 0
    → import_refusal table other ≡ 0 → import_refusal (imported table other) one ≡ 0
    → (n : ℕ) → Names n → entry_of (imported (imported table one) other) n ≡ entry_of (imported (imported table other) one) n

-- ---- withdrawals
-- An accepted withdrawal leaves the thermometer's mark at the higher of mark and serial, and nothing else of any thermometer is changed.
abbrev pub WithdrawalRaises : Type 0
WithdrawalRaises =
    (table : List Entry) (n : ℕ) (serial : Serial) → withdrawal_refusal table n ≡ 0
    → (entry_of (withdrawn table n serial) n ≡ raised (entry_of table n) serial)
    × ((m : ℕ) → eqb n m ≡ false → entry_of (withdrawn table n serial) m ≡ entry_of table m)

-- ---- readings
-- An answered reading is what a live certificate reads by its own law.
abbrev pub ReadsLive : Type 0
ReadsLive =
    (table : List Entry) (n r r0 : ℕ) (o : Outcome LawAndStep) → ReadThrough table n r r0 o → o.code ≡ 0
    → let held = entry_of table n in (is_live held ≡ true) × Follows (read_given held.certificate r r0) o

-- Every certificate held in a table that is not bad is good.
abbrev pub HeldGood : Type 0
HeldGood = (table : List Entry) (n : ℕ) → bad_table table ≡ false → is_free (entry_of table n) ≡ false → fault (entry_of table n).certificate ≡ 0

-- So no reading through the register is refused by 3 or 7.
abbrev pub ThroughGood : Type 0
ThroughGood = (table : List Entry) (n r r0 : ℕ) (o : Outcome LawAndStep) → ReadThrough table n r r0 o → (eqb o.code 3 ≡ false) × (eqb o.code 7 ≡ false)

-- Demands 2 and 3: an answered reading names the certificate's law; by the scale it is as close as demand 3 says; and of two answered readings of one thermometer
-- over one R0 the larger resistance never gives the lower temperature.
abbrev pub ThroughLaw : Type 0
ThroughLaw =
    (table : List Entry) (n r r0 : ℕ) (o : Outcome LawAndStep) → ReadThrough table n r r0 o → o.code ≡ 0 → o.answer.law ≡ law_named (entry_of table n).certificate.law.0

abbrev pub ThroughClose : Type 0
ThroughClose =
    (table : List Entry) (n r r0 : ℕ) (o : Outcome LawAndStep) (s : Subrange) → law_named (entry_of table n).certificate.law.0 ≡ Some (Scale s)
    → ReadThrough table n r r0 o → o.code ≡ 0
    → Close (carried s).form (entry_of table n).certificate.places (ratio_of r r0) o.answer.step

abbrev pub ThroughOrdered : Type 0
ThroughOrdered =
    (table : List Entry) (n r r' r0 : ℕ) (o o' : Outcome LawAndStep) → ReadThrough table n r r0 o → ReadThrough table n r' r0 o' → o.code ≡ 0 → o'.code ≡ 0
    → r ≤ r' → o.answer.step ≤ℤ o'.answer.step

-- A larger resistance allowed, only what was refused by 1 moves.
abbrev pub ThroughWidens : Type 0
ThroughWidens = (table : List Entry) (n r r0 : ℕ) → Widens (λ largest. read_through_up_to largest table n r r0)

-- ---- what is withdrawn stays withdrawn
-- What changes a register: imports, withdrawals.
pub data Act : Type 0 where
  Import : List Entry → Act
  Withdraw : ℕ → Serial → Act

-- The table after one act, accepted or refused, and after any number of them.
abbrev pub after : List Entry → Act → List Entry
after table (Import list) = imported table list
after table (Withdraw n serial) = withdrawn table n serial

abbrev pub after_all : List Entry → List Act → List Entry
after_all table [] = table
after_all table (act ∷ acts) = after_all (after table act) acts

-- The mark and the serial of a thermometer; 0 where the table has nothing of it.
abbrev pub mark_of : List Entry → ℕ → ℕ
mark_of table n = (entry_of table n).mark.0

abbrev pub serial_of : List Entry → ℕ → ℕ
serial_of table n = (entry_of table n).serial.0

-- A mark never falls, whatever is imported and withdrawn.
abbrev pub MarkNeverFalls : Type 0
MarkNeverFalls = (table : List Entry) (acts : List Act) (n : ℕ) → Names n → mark_of table n ≤ mark_of (after_all table acts) n

-- So what a mark withdraws today, however the mark came, is never read by again.
abbrev pub MarkHolds : Type 0
MarkHolds =
    (table : List Entry) (n : ℕ) → Names n → (since : List Act) (r r0 : ℕ) (o : Outcome LawAndStep)
    → ReadThrough (after_all table since) n r r0 o → o.code ≡ 0
    → mark_of table n < serial_of (after_all table since) n

-- To the person on the launch: you withdrew this thermometer's certificates up to a serial. Whatever came in afterwards, from whichever laboratory, if the
-- register answers a reading of that thermometer, it answers by a certificate with a higher serial than that one.
-- The certificate is the one that the register holds for the thermometer, and the answer is what it reads by its own law.
abbrev pub StaysWithdrawn : Type 0
StaysWithdrawn =
    (table : List Entry) (n : ℕ) (serial : Serial) → withdrawal_refusal table n ≡ 0
    → (since : List Act) (r r0 : ℕ) (o : Outcome LawAndStep)
    → ReadThrough (after_all (withdrawn table n serial) since) n r r0 o → o.code ≡ 0
    → let held = entry_of (after_all (withdrawn table n serial) since) n in (serial.0 < held.serial.0) × Follows (read_given held.certificate r r0) o

-- An entry stands in a list with the number, the serial and the certificate of another.
pub record StoodIn (entries : List Entry) (e : Entry) : Type 0 where
  pub place : ℕ
  pub there : place < length entries
  pub number_is : (get_or entries place free).number ≡ e.number
  pub serial_is : (get_or entries place free).serial ≡ e.serial
  pub certificate_is : (get_or entries place free).certificate ≡ e.certificate

-- It came so: it stood in the table at first, or in a list that was imported since and accepted. The table is followed from act to act.
pub data CameIn (first : List Entry) (e : Entry) : List Entry → List Act → Type 0 where
  at_first : (table : List Entry) (acts : List Act) → StoodIn first e → CameIn first e table acts
  now : (table list : List Entry) (acts : List Act) → import_refusal table list ≡ 0 → StoodIn list e → CameIn first e table (Import list ∷ acts)
  later : (table : List Entry) (act : Act) (acts : List Act) → CameIn first e (after table act) acts → CameIn first e table (act ∷ acts)

-- No certificate is given another's serial: whatever the register holds of a thermometer came for that thermometer, with that serial and that certificate.
abbrev pub CameTogether : Type 0
CameTogether =
    (table : List Entry) (acts : List Act) (n : ℕ) → is_free (entry_of (after_all table acts) n) ≡ false → CameIn table (entry_of (after_all table acts) n) table acts

-- A newer certificate takes the old one's place. Good, above the serial that is held and above both marks, and with a place for it, it is accepted, and a reading
-- then is by it.
abbrev pub NewerServes : Type 0
NewerServes =
    (table : List Entry) (e : Entry) → bad_table table ≡ false → Names e.number.0 → fault e.certificate ≡ 0 → short table (e ∷ []) ≡ false
    → serial_of table e.number.0 < e.serial.0 → mark_of table e.number.0 < e.serial.0 → e.mark.0 < e.serial.0
    → (import_refusal table (e ∷ []) ≡ 0)
    × ((r r0 : ℕ) (o : Outcome LawAndStep) → ReadThrough (imported table (e ∷ [])) e.number.0 r r0 o → Follows (read_given e.certificate r r0) o)

-- And the old one does not come back: a serial never falls, whatever is imported and withdrawn.
abbrev pub SerialNeverFalls : Type 0
SerialNeverFalls = (table : List Entry) (acts : List Act) (n : ℕ) → Names n → serial_of table n ≤ serial_of (after_all table acts) n

-- ---- one outcome
-- Each call's promise allows one answer and one table only.
abbrev pub OneImport : Type 0
OneImport =
    (table list : List Entry) (x y : Result ⊤ Refusal) (left other : List Entry)
    → ImportedAs table list x left → ImportedAs table list y other → (x ≡ y) × (left ≡ other)

abbrev pub OneWithdrawal : Type 0
OneWithdrawal =
    (table : List Entry) (n : ℕ) (serial : Serial) (x y : Result ⊤ Refusal) (left other : List Entry)
    → WithdrawnAs table n serial x left → WithdrawnAs table n serial y other → (x ≡ y) × (left ≡ other)

abbrev pub OneReading : Type 0
OneReading = (table : List Entry) (n r r0 : ℕ) (x y : Result Reading Refusal) → ReadThrough table n r r0 (read_as x) → ReadThrough table n r r0 (read_as y) → x ≡ y
