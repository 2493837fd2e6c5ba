-- Purity of the platinum: W(Ga) ≥ 1.11807 or W(Hg) ≤ 0.844235, one being enough; for ag also W(Ag) ≥ 4.2844.
use Rattle.std.specs.Prelude.{Bool, ◌&&◌, ◌||◌, not, ℕ, leb, ltb}

-- A cell's ratio 0 means not measured.
abbrev pub is_measured : ℕ → Bool
is_measured w = ltb 0 w

abbrev pub least_gallium : ℕ
least_gallium = 1_118_070_000

-- A cell that was not measured meets no relation: a ratio 0 is under this limit, and says nothing of the platinum.
abbrev pub most_mercury : ℕ
most_mercury = 844_235_000

abbrev pub least_silver : ℕ
least_silver = 4_284_400_000

-- The relations at gallium and at mercury, one being enough.
abbrev pub by_gallium_or_mercury : ℕ → ℕ → Bool
by_gallium_or_mercury mercury gallium = leb least_gallium gallium || is_measured mercury && leb mercury most_mercury

-- The relation at silver.
abbrev pub by_silver : ℕ → Bool
by_silver silver = leb least_silver silver

-- By the ratios at mercury, gallium and silver; whether silver is asked for, the subrange says.
abbrev pub pure : Bool → ℕ → ℕ → ℕ → Bool
pure to_silver mercury gallium silver = by_gallium_or_mercury mercury gallium && (not to_silver || by_silver silver)
