use Rattle.text.specs.Numbers.{most_digits}
use Rattle.text.proofs.Numbers.{number_short}
use mathlib.Core.Path.{◌∙◌}
use Rattle.text.proofs.number.number_of.Goals as goal

pub returns : goal.returns
returns c = c.number_to-2.ensures ∙ number_short most_digits c.args.s.now c.if-s-gt-MOST_DIGITS.false
