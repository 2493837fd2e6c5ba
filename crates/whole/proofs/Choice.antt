-- A statement that goes by a test.
use mathlib.Core.Path.{◌≡◌, refl}
use mathlib.Core.Bool.{Bool, true, false, false≢true, ◌&&◌}
use Rattle.whole.specs.Choice.{if◌then◌otherwise◌}

pub if_cases {ℓ} : {P : Type ℓ} {X Y : Type 0} (t : Bool) → (if t then X otherwise Y) → (X → P) → (Y → P) → P
if_cases true h f g = f h
if_cases false h f g = g h

-- two statements that go by one test
pub if_both {ℓ} : {P : Type ℓ} {X Y X' Y' : Type 0} (t : Bool) → (if t then X otherwise Y) → (if t then X' otherwise Y') → (X → X' → P) → (Y → Y' → P) → P
if_both true h k f g = f h k
if_both false h k f g = g h k

-- both of two tests
pub and_true : (a b : Bool) → (a && b) ≡ true → (a ≡ true) × (b ≡ true)
and_true true b e = (refl, e)
and_true false b e = absurd (false≢true e)
