-- The numbers of the refusals: no two have one, and none has 0, the number of an answer.
use mathlib.Core.Path.{◌≡◌, refl, sym, ◌∙◌, ap, subst}
use mathlib.Core.List.{List, [], ◌∷◌}
use Prim.Native.Nat.{ℕ, ◌-◌}
use native.Mathlib.Omega.{arith}
use lib.ListN.{get_or}
use Rattle.quantity.specs.declared.refusal.Refusal.{Refusal}
use Rattle.quantity.specs.declared.refusal.Refusal.TheVariants.{ResistanceOutside, RatioAbove, NameUnknown, CellNotMeasured, PurityCellNotMeasured, Impure, BeyondLimit, BelowRange, AboveRange, WrongHeader, BufferShort, LineTooLong, WrongFieldCount, FieldBroken, NumberUnfit, SerialClash, TooFewPlaces, NotLive, TableBad}
use Rattle.quantity.specs.Refusals.{number_of}

-- the refusals by their numbers, from 1; a number that is not given has the first one's place
table : List Refusal
table =
    ResistanceOutside
    ∷ RatioAbove
    ∷ NameUnknown
    ∷ CellNotMeasured
    ∷ PurityCellNotMeasured
    ∷ Impure
    ∷ BeyondLimit
    ∷ BelowRange
    ∷ AboveRange
    ∷ WrongHeader
    ∷ BufferShort
    ∷ LineTooLong
    ∷ WrongFieldCount
    ∷ FieldBroken
    ∷ ResistanceOutside
    ∷ ResistanceOutside
    ∷ NumberUnfit
    ∷ SerialClash
    ∷ TooFewPlaces
    ∷ NotLive
    ∷ ResistanceOutside
    ∷ ResistanceOutside
    ∷ TableBad
    ∷ []

refusal : ℕ → Refusal
refusal number = get_or table (number - 1) BufferShort

back : (why : Refusal) → refusal (number_of why) ≡ why
unfolding refusal table
back ResistanceOutside = refl
back RatioAbove = refl
back NameUnknown = refl
back CellNotMeasured = refl
back PurityCellNotMeasured = refl
back Impure = refl
back BeyondLimit = refl
back BelowRange = refl
back AboveRange = refl
back WrongHeader = refl
back BufferShort = refl
back LineTooLong = refl
back WrongFieldCount = refl
back FieldBroken = refl
back NumberUnfit = refl
back SerialClash = refl
back TooFewPlaces = refl
back NotLive = refl
back TableBad = refl

pub number_unique : (x y : Refusal) → number_of x ≡ number_of y → x ≡ y
number_unique x y e = sym (back x) ∙ ap refusal e ∙ back y

-- none is 0
pub not-zero : (why : Refusal) → 0 ≡ number_of why → ⊥
unfolding refusal table
not-zero why e =
    let z : 1 ≡ number_of why = subst (λ (n : ℕ). number_of (refusal n) ≡ number_of why) (sym e) (ap number_of (back why)) in
    omega arith
