-- A number of 64 bits in the code, beside the number that is meant and a bound of its size. A formula of the code is put together
-- from its parts, as `less (store (plus a b) h) c`; `fits` then answers that it does not wrap, and `.is` what it comes to.
use Rattle.std.specs.Prelude.{◌≡◌, ℕ, ◌+◌, ◌*◌, ◌^◌, ◌<◌, ◌≤◌, ℤ, pos, ◌+ℤ◌, ◌-ℤ◌, ◌*ℤ◌, ◌<ℤ◌, FitsSigned, int_div, unsigned_abs, refl}
use Rattle.std.proofs.Common.{◌∙◌, arith, to_z, of_z}
use Rattle.std.specs.Int.Signed.{mag}
use Rattle.std.specs.Int.{w32, w64}
use Rattle.std.proofs.lemmas.Int.{ints, to_z-of_z}
use Rattle.rules.specs.Ints.{near_mul, quot_near}

pub record Wide : Type 0 where
  pub code : ℤ
  pub meant : ℤ
  pub bound : ℕ
  pub is : code ≡ meant
  pub near : unsigned_abs meant ≤ bound

-- a value that is held is what it was
pub held : (x z : ℤ) → mag x < 2 ^ 63 → x ≡ z → to_z w64 (of_z w64 x) ≡ z
held x z h e = omega (arith, ints)

-- what a call returned
abbrev pub given : (x z : ℤ) (k : ℕ) → x ≡ z → unsigned_abs z ≤ k → Wide
given x z k e h = record { code = x; meant = z; bound = k; is = e; near = h }

abbrev pub number : ℕ → Wide
number n = record { code = pos n; meant = pos n; bound = n; is = refl; near = omega arith }

pub from32 : (x z : ℤ) (k : ℕ) → x ≡ to_z w32 (of_z w32 z) → unsigned_abs z ≤ k → k < 2 ^ 31 → x ≡ z
from32 x z k e h l = omega (arith, ints)

pub fits : (a : Wide) → a.bound < 2 ^ 63 → FitsSigned w64 a.code
fits a h = omega (arith, ints)

abbrev pub store : (a : Wide) → a.bound < 2 ^ 63 → Wide
store a h = record { code = to_z w64 (of_z w64 a.code); meant = a.meant; bound = a.bound; is = to_z-of_z w64 a.code (fits a h) ∙ a.is; near = a.near }

pub same_two : (f : ℤ → ℤ → ℤ) (a b : Wide) → f a.code b.code ≡ f a.meant b.meant
same_two f a b = cc

pub sum_near : (a b : ℤ) (m n : ℕ) → unsigned_abs a ≤ m → unsigned_abs b ≤ n → unsigned_abs (a +ℤ b) ≤ m + n
sum_near a b m n h k = omega (arith, ints)

pub difference_near : (a b : ℤ) (m n : ℕ) → unsigned_abs a ≤ m → unsigned_abs b ≤ n → unsigned_abs (a -ℤ b) ≤ m + n
difference_near a b m n h k = omega (arith, ints)

abbrev pub times : Wide → Wide → Wide
times a b = record { code = a.code *ℤ b.code; meant = a.meant *ℤ b.meant; bound = a.bound * b.bound; is = same_two (λ x y. x *ℤ y) a b; near = near_mul a.meant b.meant a.bound b.bound a.near b.near }

abbrev pub plus : Wide → Wide → Wide
plus a b = record { code = a.code +ℤ b.code; meant = a.meant +ℤ b.meant; bound = a.bound + b.bound; is = same_two (λ x y. x +ℤ y) a b; near = sum_near a.meant b.meant a.bound b.bound a.near b.near }

abbrev pub less : Wide → Wide → Wide
less a b = record { code = a.code -ℤ b.code; meant = a.meant -ℤ b.meant; bound = a.bound + b.bound; is = same_two (λ x y. x -ℤ y) a b; near = difference_near a.meant b.meant a.bound b.bound a.near b.near }

-- by a number of the code
abbrev pub by : Wide → Wide → Wide
by a b = record { code = int_div a.code b.code; meant = int_div a.meant b.meant; bound = a.bound; is = same_two int_div a b; near = quot_near a.meant b.meant a.bound a.near }

abbrev pub over : Wide → ℕ → Wide
over a n = by a (number n)

-- the same, with a better bound
abbrev pub within : (a : Wide) (k : ℕ) → unsigned_abs a.meant ≤ k → Wide
within a k h = record { code = a.code; meant = a.meant; bound = k; is = a.is; near = h }

-- a divisor is not 0
pub divisor : (a : Wide) → pos 0 <ℤ a.meant → 0 < of_z w64 a.code
divisor a h = grind (arith, ints)
