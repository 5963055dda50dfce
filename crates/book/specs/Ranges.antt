-- Units and ranges. One unit is 0.01 mm: beds, depths and levels are in units, velocities in mm/s, flows in units times mm/s, widths of cells in mm, rates in steps a second.
use Rattle.std.specs.Prelude.{ℕ, ◌*◌, Bool, ◌||◌, ℤ, pos, neg_ℤ, int_lt, nat_lt}

-- the deepest water of a cell, and the fastest, either way
abbrev pub max_depth : ℕ
max_depth = 2000000

abbrev pub max_velocity : ℕ
max_velocity = 10000

-- the highest bed, and below zero the lowest
abbrev pub max_bed : ℕ
max_bed = 10000000

-- the highest level at which a side is held; the lowest is the lowest bed
abbrev pub max_level : ℕ
max_level = 12000000

-- the most steps a second
abbrev pub max_rate : ℕ
max_rate = 1000

-- the most that one rain or one soaking brings to a cell or takes from it
abbrev pub max_amount : ℕ
max_amount = 1000

-- the most that a count of the account may reach
abbrev pub max_count : ℕ
max_count = 10000000000000

-- ---- tests

-- below low or above high
abbrev pub outside : ℕ → ℕ → ℕ → Bool
outside low high n = nat_lt n low || nat_lt high n

abbrev pub outsideℤ : ℤ → ℤ → ℤ → Bool
outsideℤ low high n = int_lt n low || int_lt high n

-- rows, columns and the width of a cell
abbrev pub size_amiss : ℕ → ℕ → ℕ → Bool
size_amiss rows columns width = (outside 1 64 rows || outside 1 64 columns) || (nat_lt 1024 (rows * columns) || outside 10 100000 width)

-- a bed, a rate, and an amount of rain or soaking
abbrev pub bed_amiss : ℤ → Bool
bed_amiss z = outsideℤ (neg_ℤ (pos max_bed)) (pos max_bed) z

abbrev pub rate_amiss : ℕ → Bool
rate_amiss d = outside 1 max_rate d

abbrev pub amount_amiss : ℕ → Bool
amount_amiss n = outside 1 max_amount n
