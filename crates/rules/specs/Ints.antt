-- Signed numbers: products, sizes and quotients that are cut toward zero, with their bounds.
use Rattle.std.specs.Prelude.{◌≡◌, ℕ, ◌*◌, ◌/◌, ◌<◌, ◌≤◌, ℤ, pos, ◌+ℤ◌, ◌-ℤ◌, ◌*ℤ◌, neg_ℤ, ◌≤ℤ◌, int_div, unsigned_abs}
use Rattle.std.proofs.Common.{refl, ap, arith}
use Rattle.std.proofs.Math.IntN.{*ℤ_comm}
use Rattle.std.proofs.lemmas.Int.{ints, unsigned_abs-mul}
use Rattle.std.proofs.lemmas.Nat.{mul-le}
use borrow.Author.Differences.{up, down, sum_is_lem}
use Rattle.std.proofs.Math.Nat.{div-le_of_le-mul, mul-div_cancel_left}

-- ---- products
pub mul_neg : (a b : ℤ) → a *ℤ neg_ℤ b ≡ neg_ℤ (a *ℤ b)
mul_neg a b = grind (arith, ints)

pub neg_mul : (a b : ℤ) → neg_ℤ a *ℤ b ≡ neg_ℤ (a *ℤ b)
neg_mul a b = grind (arith, ints)

pub neg_neg_mul : (a b : ℤ) → neg_ℤ a *ℤ neg_ℤ b ≡ a *ℤ b
neg_neg_mul a b = grind (arith, ints)

pub mul_add : (a b c : ℤ) → a *ℤ (b +ℤ c) ≡ a *ℤ b +ℤ a *ℤ c
mul_add a b c = omega (arith, ints, ap (λ (t : ℕ). up a * t) (sum_is_lem b c), ap (λ (t : ℕ). down a * t) (sum_is_lem b c))

pub mul_sub : (a b c : ℤ) → a *ℤ (b -ℤ c) ≡ a *ℤ b -ℤ a *ℤ c
mul_sub a b c = rw (mul_add a b (neg_ℤ c), mul_neg a c) refl

pub sub_mul : (a b c : ℤ) → (a -ℤ b) *ℤ c ≡ a *ℤ c -ℤ b *ℤ c
sub_mul a b c = rw (*ℤ_comm (a -ℤ b) c, *ℤ_comm a c, *ℤ_comm b c) (mul_sub c a b)

pub mul_le_zero : (d : ℕ) (n : ℤ) → n ≤ℤ pos 0 → (pos d *ℤ n) ≤ℤ pos 0
mul_le_zero d n h = grind (arith, ints)

pub mul_ge_zero : (d : ℕ) (n : ℤ) → pos 0 ≤ℤ n → pos 0 ≤ℤ (pos d *ℤ n)
mul_ge_zero d n h = grind (arith, ints)

-- ---- sizes
pub near_mul : (a b : ℤ) (m n : ℕ) → unsigned_abs a ≤ m → unsigned_abs b ≤ n → unsigned_abs (a *ℤ b) ≤ m * n
near_mul a b m n h k = rw unsigned_abs-mul (mul-le _ _ m n h k)

-- ---- quotients
pub halved : (a : ℤ) → int_div (a +ℤ a) (pos 2) ≡ a
halved a = grind (arith, ints)

pub quotient_neg : (x z : ℤ) → int_div (neg_ℤ x) z ≡ neg_ℤ (int_div x z)
quotient_neg x z = grind (arith, ints)

pub quot_neg : (a : ℤ) (k : ℕ) → int_div (neg_ℤ a) (pos k) ≡ neg_ℤ (int_div a (pos k))
quot_neg a k = quotient_neg a (pos k)

pub quot_le : (a : ℤ) (k m : ℕ) → 0 < k → a ≤ℤ pos (k * m) → int_div a (pos k) ≤ℤ pos m
quot_le a k m p h = grind (arith, ints, div-le_of_le-mul)

pub quot_whole : (a : ℤ) (k : ℕ) → 0 < k → int_div (pos k *ℤ a) (pos k) ≡ a
quot_whole a k p = grind (arith, ints, mul-div_cancel_left)

pub abs_quot : (x z : ℤ) → unsigned_abs (int_div x z) ≡ unsigned_abs x / unsigned_abs z
abs_quot x z = grind (arith, ints)

pub quot_near : (x z : ℤ) (n : ℕ) → unsigned_abs x ≤ n → unsigned_abs (int_div x z) ≤ n
quot_near x z n h = omega (arith, abs_quot)
