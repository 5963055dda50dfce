-- What the ranges of a side give, and a side seen from across the face.
use Rattle.std.specs.Prelude.{◌≡◌, ℕ, ◌*◌, ◌≤◌, ℤ, pos, ◌*ℤ◌, neg_ℤ, ◌≤ℤ◌, unsigned_abs}
use Rattle.std.proofs.Common.{arith, lit<, to_z, of_z}
use Rattle.std.specs.Int.{w32}
use Rattle.std.proofs.lemmas.Nat.{mul-le}
use Rattle.std.proofs.lemmas.Int.{ints}
use Rattle.rules.specs.declared.side.FaceSide.{FaceSide}
use Rattle.rules.specs.Root.{root_of}
use Rattle.rules.specs.Side.{Facing, pace_of, face_pace, discharge, momentum}
use Rattle.rules.specs.Hll.{slow_wave, fast_wave}
use Rattle.rules.specs.Ints.{near_mul, mul_neg, mul_le_zero, mul_ge_zero}
use Rattle.rules.specs.Roots.{root_least}
use Rattle.rules.specs.Wide.{Wide, given, from32, store}

-- a side of the code is in range
pub facing : (s : FaceSide) → Facing s.depth s.normal
facing s = record { shallow = s.shallow; slow = s.slow; dry = s.dry }

-- ---- bounds
pub root_near : (d : ℕ) → d ≤ 2000000 → root_of d ≤ 14008
root_near d h = grind (arith, (root_least d).least 14008)

pub pace_near : (d : ℕ) (n : ℤ) → Facing d n → pace_of d n ≤ 24008
unfolding pace_of
pace_near d n r = omega (arith, root_near d r.shallow, r.slow)

pub face_near : (dl : ℕ) (nl : ℤ) (dr : ℕ) (nr : ℤ) → Facing dl nl → Facing dr nr → face_pace dl nl dr nr ≤ 24008
unfolding face_pace
face_near dl nl dr nr p q = omega (arith, pace_near dl nl p, pace_near dr nr q)

pub discharge_near : (d : ℕ) (n : ℤ) → Facing d n → unsigned_abs (discharge d n) ≤ 20000000000
unfolding discharge
discharge_near d n r = near_mul (pos d) n 2000000 10000 r.shallow r.slow

pub momentum_near : (d : ℕ) (n : ℤ) → Facing d n → unsigned_abs (momentum d n) ≤ 7924000000000000
unfolding momentum
momentum_near d n r =
    let h = r.shallow in
    let a = near_mul (pos (20 * d)) (n *ℤ n) 40000000 100000000 (omega arith) (near_mul n n 10000 10000 r.slow r.slow) in
    omega (arith, ints, mul-le d d 2000000 2000000 h h)

-- ---- at the pace of the face
pub discharge_paced : (d : ℕ) (n : ℤ) (m : ℕ) → unsigned_abs n ≤ m → unsigned_abs (discharge d n) ≤ m * d
unfolding discharge
discharge_paced d n m h = omega (arith, near_mul (pos d) n d m (omega arith) h)

pub left_paced : (dl : ℕ) (nl : ℤ) (dr : ℕ) (nr : ℤ) → unsigned_abs nl ≤ face_pace dl nl dr nr
unfolding face_pace pace_of
left_paced dl nl dr nr = omega arith

pub right_paced : (dl : ℕ) (nl : ℤ) (dr : ℕ) (nr : ℤ) → unsigned_abs nr ≤ face_pace dl nl dr nr
unfolding face_pace pace_of
right_paced dl nl dr nr = omega arith

pub paced : (dl : ℕ) (nl : ℤ) (dr : ℕ) (nr : ℤ) → (unsigned_abs (discharge dl nl) ≤ face_pace dl nl dr nr * dl) × (unsigned_abs (discharge dr nr) ≤ face_pace dl nl dr nr * dr)
paced dl nl dr nr = (discharge_paced dl nl _ (left_paced dl nl dr nr), discharge_paced dr nr _ (right_paced dl nl dr nr))

-- ---- with the velocity reversed
pub discharge_reversed : (d : ℕ) (n : ℤ) → discharge d (neg_ℤ n) ≡ neg_ℤ (discharge d n)
unfolding discharge
discharge_reversed d n = mul_neg (pos d) n

pub momentum_reversed : (d : ℕ) (n : ℤ) → momentum d (neg_ℤ n) ≡ momentum d n
unfolding momentum
momentum_reversed d n = grind (arith, ints)

pub slow_reversed : (d : ℕ) (n : ℤ) → slow_wave d (neg_ℤ n) ≡ neg_ℤ (fast_wave d n)
unfolding slow_wave fast_wave
slow_reversed d n = omega (arith, ints)

pub fast_reversed : (d : ℕ) (n : ℤ) → fast_wave d (neg_ℤ n) ≡ neg_ℤ (slow_wave d n)
unfolding slow_wave fast_wave
fast_reversed d n = omega (arith, ints)

pub pace_exchanged : (dl : ℕ) (nl : ℤ) (dr : ℕ) (nr : ℤ) → face_pace dr (neg_ℤ nr) dl (neg_ℤ nl) ≡ face_pace dl nl dr nr
unfolding face_pace pace_of
pace_exchanged dl nl dr nr = omega (arith, ints)

-- ---- where the waves go
-- where the slower wave does not go left and the faster does not go right, there is no water
pub becalmed : (d : ℕ) (n : ℤ) → pos 0 ≤ℤ slow_wave d n → fast_wave d n ≤ℤ pos 0 → d ≡ 0
unfolding slow_wave fast_wave
becalmed d n h k = grind (arith, ints, (root_least d).enough)

pub discharge_dry : (d : ℕ) (n : ℤ) → d ≡ 0 → discharge d n ≡ pos 0
unfolding discharge
discharge_dry d n e = grind (arith, ints)

pub momentum_dry : (d : ℕ) (n : ℤ) → d ≡ 0 → momentum d n ≡ pos 0
unfolding momentum
momentum_dry d n e = grind (arith, ints)

pub onward_carries : (d : ℕ) (n : ℤ) → pos 0 ≤ℤ slow_wave d n → pos 0 ≤ℤ discharge d n
unfolding slow_wave discharge
onward_carries d n h = mul_ge_zero d n (omega (arith, ints))

pub back_carries : (d : ℕ) (n : ℤ) → fast_wave d n ≤ℤ pos 0 → discharge d n ≤ℤ pos 0
unfolding fast_wave discharge
back_carries d n h = mul_le_zero d n (omega (arith, ints))

-- ---- what the code has of a side, in 64 bits
module _ (s : FaceSide) (x : ℤ) where
  abbrev pub wide_depth : x ≡ pos s.depth → Wide
  wide_depth e = store (given x (pos s.depth) 2000000 e s.shallow) (lit< tt)

  abbrev pub wide_normal : x ≡ to_z w32 (of_z w32 s.normal) → Wide
  wide_normal e = store (given x s.normal 10000 (from32 x s.normal 10000 e s.slow (lit< tt)) s.slow) (lit< tt)

  abbrev pub wide_wave : x ≡ pos s.wave → Wide
  wide_wave e = store (given x (pos (root_of s.depth)) 14008 (rw (← s.celerity) e) (root_near s.depth s.shallow)) (lit< tt)

  abbrev pub wide_discharge : x ≡ discharge s.depth s.normal → Wide
  wide_discharge e = store (given x (discharge s.depth s.normal) 20000000000 e (discharge_near s.depth s.normal (facing s))) (lit< tt)

  abbrev pub wide_momentum : x ≡ momentum s.depth s.normal → Wide
  wide_momentum e = store (given x (momentum s.depth s.normal) 7924000000000000 e (momentum_near s.depth s.normal (facing s))) (lit< tt)
