-- The bench cards that are proved: one table of inputs and outcomes.
use Rattle.std.specs.Prelude.{◌≡◌, List, [], ◌∷◌, ℕ, ℤ, pos, neg_ℤ, Option}
use Rattle.quantity.specs.Outcomes.{Outcome, answered, refused, Follows}
use Rattle.quantity.specs.Ratios.{ratio_rule}
use Rattle.reference.specs.Reference.{working}
use Rattle.law.specs.declared.laws.Law.{Law}
use Rattle.law.specs.Names.{spelled}
use Rattle.law.specs.Subranges.{law_named}
use Rattle.quantity.specs.declared.resistance.Ratio.{Ratio}
use Rattle.certificate.specs.declared.record.Record.{Record}
use Rattle.law.specs.Answers.{LawAndStep, no_step}
use Rattle.deviation.specs.declared.places.Places.{Places}
use Rattle.certificate.specs.declared.soundness.Given.{Given}
use Rattle.certificate.specs.Certificate.{LawAndPlaces, no_places}
use Rattle.certificate.specs.Record.{record_rule}
use Rattle.reading.specs.Reading.{read_given}

-- What is read: a step, or the number given instead.
pub data Reads : Type 0 where
  step : ℤ → Reads
  number : ℕ → Reads

-- The outcome, by a law where there is one.
abbrev pub read_by : Option Law → Reads → Outcome LawAndStep
read_by law (step t) = answered (record { law = law; step = t })
read_by law (number n) = refused no_step n

-- What a record gives: the places of a certificate, or the number given instead.
pub data Gives : Type 0 where
  places : Places → Gives
  number : ℕ → Gives

abbrev pub given_by : Option Law → Gives → Outcome LawAndPlaces
given_by law (places p) = answered (record { law = law; places = p })
given_by law (number n) = refused no_places n

-- a, b, c, d and W(Al)
abbrev pub places_of : ℤ → ℤ → ℤ → ℤ → ℕ → Places
places_of a b c d wal = record { a = a; b = b; c = c; d = d; wal = record { 0 = wal } }

pub data Card : Type 0 where
  -- a step, and the working value of the reference function there
  works : ℤ → ℤ → Card
  -- a certificate as it is given, a ratio W, and what it reads
  reads : Given → ℕ → Reads → Card
  -- a record, and what it gives
  gives : Record Ratio → Gives → Card

-- What a card says of the definitions. A card of a ratio speaks of every R and R0 that have it, and its reading names the law that the card names.
abbrev pub Holds : Card → Type 0
Holds (works t value) = working t ≡ value
Holds (reads k w x) = (r r0 : ℕ) → Follows (ratio_rule r r0) (answered w) → Follows (read_given k r r0) (read_by (law_named k.law.0) x)
Holds (gives ratios x) = Follows (record_rule ratios) (given_by (law_named ratios.subrange.0) x)

-- ---- the table

-- by the ag certificate of zeros whose W(Al) is 3.3760086, and by the curve
abbrev zeros : ℕ → Places
zeros wal = places_of (pos 0) (pos 0) (pos 0) (pos 0) wal

abbrev zero_ag : ℕ → Reads → Card
zero_ag = reads (record { law = record { 0 = spelled "ag" }; places = zeros 3_376_008_600 })

abbrev on_curve : ℕ → Reads → Card
on_curve = reads (record { law = record { 0 = spelled "curve" }; places = zeros 0 })

-- a record with gallium and indium alone, and a certificate with a alone
abbrev low : ℕ → ℕ → ℕ → Gives → Card
low name gallium indium =
    gives
    (record {
      subrange = record { 0 = name };
      mercury = record { 0 = 0 };
      gallium = record { 0 = gallium };
      indium = record { 0 = indium };
      tin = record { 0 = 0 };
      zinc = record { 0 = 0 };
      aluminium = record { 0 = 0 };
      silver = record { 0 = 0 };
    })

abbrev only_a : ℤ → Gives
only_a a = places (places_of a (pos 0) (pos 0) (pos 0) 0)

-- Cards 1 to 8, line by line: one line for each of cards 1, 2 and 6, two for 3, 4, 5 and 8, three for 7, whose last has no star and is proved too.
abbrev pub cards : List Card
cards =
    -- 1 and 2
    works (pos 0) (pos 99_996_011_000)
    ∷ works (pos 4_810_000) (pos 278_157_254_000)
    -- 3
    ∷ zero_ag 2_781_572_540 (step (pos 4_810_000))
    ∷ zero_ag 2_781_572_539 (step (pos 4_809_999))
    -- 4
    ∷ zero_ag 999_960_110 (step (pos 0))
    ∷ zero_ag 999_960_109 (number 8)
    -- 5
    ∷ low (spelled "ga") 1_118_070_000 0 (only_a (neg_ℤ (pos 58_346_744)))
    ∷ low (spelled "ga") 1_118_069_999 0 (number 6)
    -- 6
    ∷ low (spelled "in") 1_118_138_890 1_609_701_850 (only_a (neg_ℤ (pos 16_401_460)))
    -- 7
    ∷ on_curve 1_385_055_000 (step (pos 1_000_000))
    ∷ on_curve 185_200_800 (step (neg_ℤ (pos 2_000_000)))
    ∷ on_curve 185_200_799 (number 8)
    -- 8
    ∷ on_curve 3_904_811_542 (step (pos 8_500_000))
    ∷ on_curve 3_904_811_543 (number 9)
    ∷ []

-- Each card of a list holds.
abbrev pub Each : List Card → Type 0
Each [] = Unit {0}
Each (card ∷ more) = Holds card × Each more

abbrev pub CardsHold : Type 0
CardsHold = Each cards
