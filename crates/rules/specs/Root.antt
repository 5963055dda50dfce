-- The speed of a wave over a depth d: the least whole number s with 10·s² at least 981·d, as a relation and as a function.
use Rattle.std.specs.Prelude.{ℕ, zero, suc, ◌+◌, ◌*◌, ◌<◌, ◌≤◌, cond, nat_lt}

pub record LeastRoot (d s : ℕ) : Type 0 where
  pub enough : 981 * d ≤ 10 * (s * s)
  pub least : (u : ℕ) → u < s → 10 * (u * u) < 981 * d

-- the first of s, s + 1, .. whose square, ten times, is at least t; s + n where the n before it are too small
unfoldable pub first_from : ℕ → ℕ → ℕ → ℕ
first_from t zero s = s
first_from t (suc n) s = cond (nat_lt (10 * (s * s)) t) (first_from t n (s + 1)) s

unfoldable pub root_of : ℕ → ℕ
root_of d = first_from (981 * d) (981 * d) 0
