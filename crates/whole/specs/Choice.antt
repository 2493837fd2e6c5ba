-- How definitions write a choice: `if test then this otherwise that`.
use Rattle.std.specs.Prelude.{Bool, true, false}

infix 1 if◌then◌otherwise◌
abbrev pub if◌then◌otherwise◌ {ℓ} : {A : Type ℓ} → Bool → A → A → A
if true then x otherwise y = x
if false then x otherwise y = y
