-- The fixed-point cells of the scope document's table.
use Rattle.std.specs.Prelude.{List, [], ◌∷◌, ℕ, ℤ, pos, neg_ℤ}
use Rattle.law.specs.declared.cell.Cell.{Cell}
use Rattle.law.specs.declared.cell.Cell.TheVariants.{Hg, Ga, In, Sn, Zn, Al, Ag}

-- Temperatures, in steps of 0.1 mK from 0 °C: -38.8344 °C for mercury.
abbrev pub step : Cell → ℤ
step Hg = neg_ℤ (pos 38_8344)
step Ga = pos 29_7646
step In = pos 156_5985
step Sn = pos 231_9280
step Zn = pos 419_5270
step Al = pos 660_3230
step Ag = pos 961_7800

-- Wr in units of 10^-11, the printed eight decimals and three zeros: 0.844 142 11 for mercury.
abbrev pub Wr : Cell → ℕ
Wr Hg = 0_844_142_11_000
Wr Ga = 1_118_138_89_000
Wr In = 1_609_801_85_000
Wr Sn = 1_892_797_68_000
Wr Zn = 2_568_917_30_000
Wr Al = 3_376_008_60_000
Wr Ag = 4_286_420_53_000

-- All seven.
abbrev pub all_cells : List Cell
all_cells = Hg ∷ Ga ∷ In ∷ Sn ∷ Zn ∷ Al ∷ Ag ∷ []
