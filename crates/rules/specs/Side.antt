-- One side of a face, by two numbers: d, the depth of its water above the higher of the two beds, and n, the velocity of that water across the face.
use Rattle.std.specs.Prelude.{◌≡◌, ℕ, ◌+◌, ◌*◌, ◌<◌, ◌≤◌, max, ℤ, pos, ◌+ℤ◌, ◌*ℤ◌, unsigned_abs}
use Rattle.rules.specs.declared.side.SideFault.{SideFault}
use Rattle.rules.specs.declared.side.SideFault.TheVariants.{TooDeep, TooFast, DryMoving}
use Rattle.rules.specs.Root.{root_of}

-- the ranges in which a flux rule answers
pub record Facing (d : ℕ) (n : ℤ) : Type 0 where
  pub shallow : d ≤ 2000000
  pub slow : unsigned_abs n ≤ 10000
  pub dry : d ≡ 0 → n ≡ pos 0

-- why d and n are out of these ranges
abbrev pub Amiss : ℕ → ℤ → SideFault → Type 0
Amiss d n TooDeep = 2000000 < d
Amiss d n TooFast = (d ≤ 2000000) × (10000 < unsigned_abs n)
Amiss d n DryMoving = (d ≡ 0) × (0 < unsigned_abs n) × (unsigned_abs n ≤ 10000)

-- the fastest that anything moves on a side, and at a face
unfoldable pub pace_of : ℕ → ℤ → ℕ
pace_of d n = unsigned_abs n + root_of d

unfoldable pub face_pace : ℕ → ℤ → ℕ → ℤ → ℕ
face_pace dl nl dr nr = max (pace_of dl nl) (pace_of dr nr)

-- p: the water that a side carries across the face
unfoldable pub discharge : ℕ → ℤ → ℤ
discharge d n = pos d *ℤ n

-- f: twenty times the momentum that it carries, with the weight of the water
unfoldable pub momentum : ℕ → ℤ → ℤ
momentum d n = (pos (20 * d) *ℤ (n *ℤ n)) +ℤ pos (981 * (d * d))
