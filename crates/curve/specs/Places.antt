-- How the code counts steps: place 0 is -200 °C, and each place is one step.
use Rattle.std.specs.Prelude.{ℕ, ℤ, pos, ◌+ℤ◌}
use Rattle.curve.specs.Curve.{first}

unfoldable pub step_at : ℕ → ℤ
step_at place = first +ℤ pos place
