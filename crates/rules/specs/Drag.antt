-- Flows made smaller: quotients rounded away from zero, and what drag leaves of a flow.
use Rattle.std.specs.Prelude.{ℕ, suc, ◌+◌, ◌/◌, ◌%◌, min, ℤ, pos, negsuc, ◌-ℤ◌, ◌*ℤ◌, neg_ℤ}

-- x / y, rounded up
unfoldable pub quot_up : ℕ → ℕ → ℕ
quot_up x y = x / y + min 1 (x % y)

-- x / y, rounded away from zero
abbrev pub quot_away : ℤ → ℕ → ℤ
quot_away (pos x) y = pos (quot_up x y)
quot_away (negsuc x) y = neg_ℤ (pos (quot_up (suc x) y))

-- q less q·b/(a + b), that quotient rounded away from zero
unfoldable pub dragged : ℕ → ℕ → ℤ → ℤ
dragged a b q = q -ℤ quot_away (q *ℤ pos b) (a + b)

-- the number of size n with the sign of q
abbrev pub with_size : ℤ → ℕ → ℤ
with_size (pos m) n = pos n
with_size (negsuc m) n = neg_ℤ (pos n)
