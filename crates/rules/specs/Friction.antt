-- What every friction rule owes. A rule means a function of a flow q, the speed u before the step, the depth h after it and the rate d in steps a second.
use Rattle.std.specs.Prelude.{◌≡◌, ℕ, ◌≤◌, ℤ, pos, ◌*ℤ◌, neg_ℤ, ◌≤ℤ◌, unsigned_abs}

-- the ranges in which a friction rule answers
pub record Slowing (q : ℤ) (u h d : ℕ) : Type 0 where
  pub flow : unsigned_abs q ≤ 30000000000
  pub speed : u ≤ 10000
  pub wet : 1 ≤ h
  pub shallow : h ≤ 2000000
  pub some_rate : 1 ≤ d
  pub rate : d ≤ 1000

pub record LawfulFriction (slowed : ℤ → ℕ → ℕ → ℕ → ℤ) : Type 0 where
  -- never of the opposite sign: its product with the flow is not negative
  pub same_sign : (q : ℤ) (u h d : ℕ) → Slowing q u h d → pos 0 ≤ℤ (slowed q u h d *ℤ q)
  pub no_larger : (q : ℤ) (u h d : ℕ) → Slowing q u h d → unsigned_abs (slowed q u h d) ≤ unsigned_abs q
  pub reversed : (q : ℤ) (u h d : ℕ) → Slowing q u h d → slowed (neg_ℤ q) u h d ≡ neg_ℤ (slowed q u h d)
