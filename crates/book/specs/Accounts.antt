-- The account of a basin's water: what was poured, rained and soaked away, and what passed each side.
use Rattle.std.specs.Prelude.{ℕ, ◌+◌, Bool, ◌||◌, nat_lt}
use Rattle.book.specs.declared.side.Hand.{Hand}
use Rattle.book.specs.declared.side.Hand.TheVariants.{West, East, South, North}
use Rattle.book.specs.declared.account.Passed.{Passed}
use Rattle.book.specs.declared.account.Account.{Account}
use Rattle.book.specs.Ranges.{max_count}
use Rattle.book.specs.Step.{Rules}
use Rattle.book.specs.Sheets.{Table, sum_side, leaves, arrives}

-- the counts of a side that nothing passed
abbrev pub nothing_passed : Passed
nothing_passed = record { into = 0; out = 0 }

-- the account of a basin that opens with so much water
abbrev pub poured_only : ℕ → Account
poured_only n = record { poured = n; rain = 0; soak = 0; west = nothing_passed; east = nothing_passed; south = nothing_passed; north = nothing_passed }

-- with so much more rain, and with so much more soaked away
abbrev pub rain_more : Account → ℕ → Account
rain_more a n = record { poured = a.poured; rain = a.rain + n; soak = a.soak; west = a.west; east = a.east; south = a.south; north = a.north }

abbrev pub soak_more : Account → ℕ → Account
soak_more a n = record { poured = a.poured; rain = a.rain; soak = a.soak + n; west = a.west; east = a.east; south = a.south; north = a.north }

module _ (rules : Rules) (t : Table) (rate : ℕ) where
  -- with what one step passes over the faces along the side to the given hand
  abbrev pub passed_by : Hand → Passed → Passed
  passed_by hand p =
      record {
        into = p.into + sum_side t hand (λ r c. arrives rules t rate r c hand);
        out = p.out + sum_side t hand (λ r c. leaves rules t rate r c hand);
      }

  -- a step changes the counts of the four sides, each border face by itself
  abbrev pub account_after_step : Account → Account
  account_after_step a =
      record {
        poured = a.poured;
        rain = a.rain;
        soak = a.soak;
        west = passed_by West a.west;
        east = passed_by East a.east;
        south = passed_by South a.south;
        north = passed_by North a.north;
      }

-- ---- a count past its limit

-- one of a side, and one of any
abbrev pub full_passed : Passed → Bool
full_passed p = nat_lt max_count p.into || nat_lt max_count p.out

abbrev pub full : Account → Bool
full a =
    (nat_lt max_count a.poured || nat_lt max_count a.rain || nat_lt max_count a.soak)
    || ((full_passed a.west || full_passed a.east) || (full_passed a.south || full_passed a.north))
