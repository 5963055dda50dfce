-- Signs, ranges, quotients and velocities, and the laws of `share`, `film` and `friction_speed`: a change of one of these three proves its laws again here.
use Rattle.std.proofs.Common.{◌≡◌, ℕ, zero, suc, ◌+◌, ◌*◌, ◌/◌, ◌<◌, ◌≤◌, false, cond, ℤ, pos, negsuc, ◌-ℤ◌, ◌*ℤ◌, neg_ℤ, nat_abs, ◌≤ℤ◌, sym, refl, ap, ◌∙◌, zero-le, mul-le-mul_right, div-lt_iff_lt-mul, mul-le-mul_left, div-mul-le_self, arith}
use native.Mathlib.Nat.{zero-div, div-zero, le_of_mul-le-mul_right}
use lib.IntN.{neg_ℤ-neg_ℤ, zero-*ℤ}
use lib.Signed.{lt_z}
use Rattle.std.proofs.lemmas.Int.{ints, unsigned_abs-mul}
use Rattle.std.proofs.lemmas.Bool.{lt-ltb}
use Rattle.std.proofs.lemmas.Bool.Decides.{nat_tests}
use Rattle.book.specs.Ranges.{max_depth, max_velocity, max_bed, outside, bed_amiss}
use Rattle.book.specs.Numbers.{trunc, share, film, thinned, positive, greater, velocity, where_wet, friction_speed}
use Rattle.rules.specs.Ints.{mul_neg, neg_mul, quot_neg, abs_quot}

-- ---- signs

pub abs_neg : (z : ℤ) → nat_abs (neg_ℤ z) ≡ nat_abs z
abs_neg z = omega (arith, ints)

pub abs_zero : (z : ℤ) → nat_abs z ≤ 0 → z ≡ pos 0
abs_zero z h = omega (arith, ints)

pub less_neg : (q z : ℤ) → neg_ℤ q -ℤ neg_ℤ z ≡ neg_ℤ (q -ℤ z)
less_neg q z = omega (arith, ints)

pub positive_le : (z : ℤ) (n : ℕ) → z ≤ℤ pos n → positive z ≤ n
positive_le (pos a) n h = omega (arith, ints)
positive_le (negsuc a) n h = zero-le

positive_neg : (n : ℕ) → positive (neg_ℤ (pos n)) ≡ 0
positive_neg zero = refl
positive_neg (suc n) = refl

pub greater_left : (a b : ℤ) → a ≤ℤ greater a b
greater_left a b = grind (arith, ints)

pub greater_right : (a b : ℤ) → b ≤ℤ greater a b
greater_right a b = grind (arith, ints)

pub greater_swap : (a b : ℤ) → greater a b ≡ greater b a
greater_swap a b = grind (arith, ints)

-- ---- ranges

pub inside : (low high n : ℕ) → outside low high n ≡ false → (low ≤ n) × (n ≤ high)
inside low high n e = (grind (arith, nat_tests), grind (arith, nat_tests))

pub bed_inside : (z : ℤ) → bed_amiss z ≡ false → nat_abs z ≤ max_bed
bed_inside z e = grind (arith, ints, nat_tests)

-- ---- quotients

pub trunc_none : (w : ℤ) (k : ℕ) → w ≡ pos 0 → trunc w k ≡ pos 0
trunc_none w k e = rw (e, zero-div)

quarter : (a k p d : ℕ) → a ≤ p * d → 4 * p ≤ k → 4 * (a / k) ≤ d
quarter a zero p d h g = rw div-zero zero-le
quarter a (suc m) p d h g = le_of_mul-le-mul_right {k = suc m} (omega (arith, div-mul-le_self a (suc m), mul-le-mul_right d g)) (omega arith)

-- water of at most p times d, over k of at least 4 times p, is at most a quarter of d
pub quarter_out : (w : ℤ) (k p d : ℕ) → w ≤ℤ pos (p * d) → 4 * p ≤ k → 4 * positive (trunc w k) ≤ d
quarter_out (pos a) k p d h g = quarter a k p d (omega (arith, ints)) g
quarter_out (negsuc a) k p d h g = rw positive_neg zero-le

-- ---- the laws of `share`

pub share_zero : (k : ℕ) → share (pos 0) k ≡ pos 0
unfolding share
share_zero k = trunc_none (pos 0) k refl

pub share_neg : (z : ℤ) (k : ℕ) → share (neg_ℤ z) k ≡ neg_ℤ (share z k)
unfolding share
share_neg z k = quot_neg z k

-- ---- the laws of `film`

pub film_wet : 1 ≤ film
unfolding film
film_wet = omega arith

pub film_shallow : film ≤ max_depth
unfolding film
film_shallow = omega arith

-- ---- the laws of `friction_speed`

pub friction_speed_low : (e n : ℤ) → nat_abs e ≤ max_velocity → nat_abs n ≤ max_velocity → friction_speed e n ≤ max_velocity
unfolding friction_speed
friction_speed_low e n h k = omega arith

pub friction_speed_neg_east : (e n : ℤ) → friction_speed (neg_ℤ e) n ≡ friction_speed e n
unfolding friction_speed
friction_speed_neg_east e n = omega (arith, ints)

pub friction_speed_neg_north : (e n : ℤ) → friction_speed e (neg_ℤ n) ≡ friction_speed e n
unfolding friction_speed
friction_speed_neg_north e n = omega (arith, ints)

pub friction_speed_swap : (e n : ℤ) → friction_speed n e ≡ friction_speed e n
unfolding friction_speed
friction_speed_swap e n = omega arith

-- ---- velocities

pub velocity_zero : (d : ℕ) → velocity (pos 0) d ≡ pos 0
velocity_zero zero = refl
velocity_zero (suc d) = trunc_none (pos 0) (suc d) refl

pub velocity_neg : (q : ℤ) (h : ℕ) → velocity (neg_ℤ q) h ≡ neg_ℤ (velocity q h)
velocity_neg q zero = refl
velocity_neg q (suc h) = quot_neg q (suc h)

pub speed_neg : (q : ℤ) (h : ℕ) → nat_abs (velocity (neg_ℤ q) h) ≡ nat_abs (velocity q h)
speed_neg q h = rw velocity_neg (omega (arith, ints))

velocity_abs : (q : ℤ) (h : ℕ) → 1 ≤ h → nat_abs (velocity q h) ≡ nat_abs q / h
velocity_abs q zero p = absurd (omega arith)
velocity_abs q (suc h) p = abs_quot q (pos (suc h))

pub still_slow : (h : ℕ) → nat_abs (velocity (pos 0) h) ≤ max_velocity
still_slow h = rw velocity_zero zero-le

-- a velocity in range says that the flow is small, and the other way round
pub flow_small : (q : ℤ) (h : ℕ) → 1 ≤ h → nat_abs (velocity q h) ≤ max_velocity → nat_abs q < suc max_velocity * h
flow_small q h p s = (div-lt_iff_lt-mul {x = nat_abs q} {y = suc max_velocity} p).0 (omega (arith, velocity_abs q h p))

pub flow_slow : (q : ℤ) (h : ℕ) → 1 ≤ h → nat_abs q < suc max_velocity * h → nat_abs (velocity q h) ≤ max_velocity
flow_slow q h p s = omega (arith, velocity_abs q h p, (div-lt_iff_lt-mul {x = nat_abs q} {y = suc max_velocity} p).1 s)

pub times_slow : (h : ℕ) (v : ℤ) → 1 ≤ h → nat_abs v ≤ max_velocity → nat_abs (velocity (pos h *ℤ v) h) ≤ max_velocity
times_slow h v p s = flow_slow (pos h *ℤ v) h p (omega (arith, unsigned_abs-mul (pos h) v, mul-le-mul_left h s))

pub more_slow : (q : ℤ) (d r : ℕ) → (d ≡ 0 → q ≡ pos 0) → nat_abs (velocity q d) ≤ max_velocity → nat_abs (velocity q (d + r)) ≤ max_velocity
more_slow q zero r dry s = rw (dry refl) (still_slow (0 + r))
more_slow q (suc d) r dry s = flow_slow q (suc d + r) (omega arith) (omega (arith, flow_small q (suc d) (omega arith) s))

pub where_wet_zero : (d : ℕ) → where_wet d (pos 0) ≡ pos 0
where_wet_zero zero = refl
where_wet_zero (suc d) = refl

pub where_wet_neg : (d : ℕ) (v : ℤ) → where_wet d (neg_ℤ v) ≡ neg_ℤ (where_wet d v)
where_wet_neg zero v = refl
where_wet_neg (suc d) v = refl

-- a flow of the opposite sign, asked only where there is more than a film
pub thinned_neg : (h : ℕ) (x y : ℤ) → (film ≤ h → x ≡ neg_ℤ y) → thinned h x ≡ neg_ℤ (thinned h y)
thinned_neg h x y e = grind (arith, ints, nat_tests)

-- ---- what the water carries over

-- with the two sides exchanged
pub carried_swap : (w x y : ℤ) → (pos 20 *ℤ neg_ℤ w) *ℤ cond (lt_z (pos 0) (neg_ℤ w)) y x ≡ neg_ℤ ((pos 20 *ℤ w) *ℤ cond (lt_z (pos 0) w) x y)
carried_swap (pos zero) x y = zero-*ℤ x ∙ sym (ap neg_ℤ (zero-*ℤ y))
carried_swap (pos (suc n)) x y = rw (lt-ltb 0 (suc n) (omega arith)) (rw (mul_neg (pos 20) (pos (suc n))) (neg_mul (pos 20 *ℤ pos (suc n)) x))
carried_swap (negsuc n) x y = rw (lt-ltb 0 (suc n) (omega arith)) (sym (ap (λ z. z *ℤ y) (neg_ℤ-neg_ℤ (pos (20 * suc n)))) ∙ neg_mul (pos 20 *ℤ negsuc n) y)

pub carried_none : (w x y : ℤ) → w ≡ pos 0 → (pos 20 *ℤ w) *ℤ cond (lt_z (pos 0) w) x y ≡ pos 0
carried_none w x y e = rw (e, zero-*ℤ)
