-- Whole numbers as the scheme uses them: quotients, velocities, thin water, the speed given to friction.
use Rattle.std.specs.Prelude.{ℕ, zero, suc, max, cond, ℤ, pos, negsuc, int_div, int_lt, nat_lt, unsigned_abs}

-- division cut toward zero
abbrev pub trunc : ℤ → ℕ → ℤ
trunc a b = int_div a (pos b)

-- the greater of 0 and z
abbrev pub positive : ℤ → ℕ
positive (pos n) = n
positive (negsuc n) = 0

-- the greater of two
abbrev pub greater : ℤ → ℤ → ℤ
greater a b = cond (int_lt a b) b a

-- the velocity of a flow q over a depth h, 0 over no water
abbrev pub velocity : ℤ → ℕ → ℤ
velocity q zero = pos 0
velocity q (suc h) = trunc q (suc h)

-- a velocity, or 0 where there is no water
abbrev pub where_wet : ℕ → ℤ → ℤ
where_wet zero v = pos 0
where_wet (suc d) v = v

-- ---- definitions that stand alone: proofs use of each only the laws that proofs/Numbers.antt has of it

-- the part of a thrust that changes a flow
unfoldable pub share : ℤ → ℕ → ℤ
share a b = trunc a b

-- flows over less water than this are 0
unfoldable pub film : ℕ
film = 10

-- a flow, or 0 where the water is less than a film
abbrev pub thinned : ℕ → ℤ → ℤ
thinned h q = cond (nat_lt h film) (pos 0) q

-- the speed given to friction, of a velocity to the east and one to the north
unfoldable pub friction_speed : ℤ → ℤ → ℕ
friction_speed e n = max (unsigned_abs e) (unsigned_abs n)
