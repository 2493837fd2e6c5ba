use Rattle.text.proofs.Decimals.{one-long, exactly}
use mathlib.Core.Path.{sym}
use Rattle.text.proofs.decimal.width_to_seven.Goals as goal

-- `text::decimal::width_to_seven` meets its contract: the comparison before bounds the number from above.
pub returns-then-n-ge1000000 : goal.returns-then-n-ge1000000
returns-then-n-ge1000000 c = sym (exactly 6 c.args.n c.if-n-ge1000000.true c.requires)

pub returns-then-n-ge100000 : goal.returns-then-n-ge100000
returns-then-n-ge100000 c = sym (exactly 5 _ c.if-n-ge100000.true c.if-n-ge1000000.false)

pub returns-then-n-ge10000 : goal.returns-then-n-ge10000
returns-then-n-ge10000 c = sym (exactly 4 _ c.if-n-ge10000.true c.if-n-ge100000.false)

pub returns-then-n-ge1000 : goal.returns-then-n-ge1000
returns-then-n-ge1000 c = sym (exactly 3 _ c.if-n-ge1000.true c.if-n-ge10000.false)

pub returns-then-n-ge100 : goal.returns-then-n-ge100
returns-then-n-ge100 c = sym (exactly 2 _ c.if-n-ge100.true c.if-n-ge1000.false)

pub returns-then-n-ge10 : goal.returns-then-n-ge10
returns-then-n-ge10 c = sym (exactly 1 _ c.if-n-ge10.true c.if-n-ge100.false)

pub returns : goal.returns
returns c = sym (one-long _ c.if-n-ge10.false)
