-- The flux of Harten, Lax and van Leer: one state between the slowest wave from the face and the fastest.
use Rattle.std.specs.Prelude.{ℕ, ◌≤◌, cond, ℤ, pos, ◌+ℤ◌, ◌-ℤ◌, ◌*ℤ◌, ◌<ℤ◌, int_div, int_le, unsigned_abs}
use Rattle.std.specs.Int.{int_min, int_max}
use Rattle.rules.specs.Root.{root_of}
use Rattle.rules.specs.Side.{discharge, momentum}

-- the slower wave of a side, and the faster
unfoldable pub slow_wave : ℕ → ℤ → ℤ
slow_wave d n = n -ℤ pos (root_of d)

unfoldable pub fast_wave : ℕ → ℤ → ℤ
fast_wave d n = n +ℤ pos (root_of d)

-- c1 and c2
unfoldable pub slowest : ℕ → ℤ → ℕ → ℤ → ℤ
slowest dl nl dr nr = int_min (slow_wave dl nl) (slow_wave dr nr)

unfoldable pub fastest : ℕ → ℤ → ℕ → ℤ → ℤ
fastest dl nl dr nr = int_max (fast_wave dl nl) (fast_wave dr nr)

-- two waves that go apart, neither faster than m
pub record Apart (m : ℕ) (c1 c2 : ℤ) : Type 0 where
  pub left : c1 <ℤ pos 0
  pub right : pos 0 <ℤ c2
  pub low : unsigned_abs c1 ≤ m
  pub high : unsigned_abs c2 ≤ m

-- the left where both waves go right, the right where both go left, else what is between them
unfoldable pub by_waves : ℤ → ℤ → ℤ → ℤ → ℤ → ℤ
by_waves c1 c2 left between right = cond (int_le (pos 0) c1) left (cond (int_le c2 (pos 0)) right between)

-- between waves c1 < 0 < c2, of discharges pl and pr, depths dl and dr, momenta fl and fr
unfoldable pub fan_water : ℤ → ℤ → ℤ → ℤ → ℕ → ℕ → ℤ
fan_water c1 c2 pl pr dl dr = int_div (((c2 *ℤ pl) -ℤ (c1 *ℤ pr)) +ℤ ((c1 *ℤ c2) *ℤ (pos dr -ℤ pos dl))) (c2 -ℤ c1)

unfoldable pub fan_push : ℤ → ℤ → ℤ → ℤ → ℤ → ℤ → ℤ
fan_push c1 c2 pl pr fl fr =
    int_div ((fl +ℤ fr) +ℤ ((c1 +ℤ c2) *ℤ int_div (fl -ℤ fr) (c2 -ℤ c1))) (pos 2) +ℤ (int_div (pos 20 *ℤ (c1 *ℤ c2)) (c2 -ℤ c1) *ℤ (pr -ℤ pl))

unfoldable pub hll_water : ℕ → ℤ → ℕ → ℤ → ℤ
hll_water dl nl dr nr =
    let c1 : ℤ = slowest dl nl dr nr in
    let c2 : ℤ = fastest dl nl dr nr in
    by_waves c1 c2 (discharge dl nl) (fan_water c1 c2 (discharge dl nl) (discharge dr nr) dl dr) (discharge dr nr)

unfoldable pub hll_push : ℕ → ℤ → ℕ → ℤ → ℤ
hll_push dl nl dr nr =
    let c1 : ℤ = slowest dl nl dr nr in
    let c2 : ℤ = fastest dl nl dr nr in
    by_waves c1 c2 (momentum dl nl) (fan_push c1 c2 (discharge dl nl) (discharge dr nr) (momentum dl nl) (momentum dr nr)) (momentum dr nr)
