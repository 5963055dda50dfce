-- The least root: counting up from 0 finds it, and there is no other.
use Rattle.std.specs.Prelude.{◌≡◌, ℕ, zero, suc, ◌+◌, ◌-◌, ◌*◌, ◌<◌, ◌≤◌, Bool, true, false, cond, nat_lt, refl}
use Rattle.std.proofs.Common.{subst, ⊎_elim, arith}
use Rattle.std.proofs.lemmas.Bool.{cases_lt, ltb-true, ltb-false}
use Rattle.std.proofs.lemmas.Nat.{mul-le}
use Rattle.rules.specs.Root.{LeastRoot, first_from, root_of}

pub square_mono : (a b : ℕ) → a ≤ b → a * a ≤ b * b
square_mono a b h = mul-le a a b b h h

-- no number below n is enough for t
abbrev pub Short : ℕ → ℕ → Type 0
Short t n = (s : ℕ) → s < n → 10 * (s * s) < t

pub short_more : (t n : ℕ) → 10 * (n * n) < t → Short t (n + 1)
short_more t n h s k = omega (arith, square_mono s n (omega arith))

pub record First (t s : ℕ) : Type 0 where
  pub enough : t ≤ 10 * (s * s)
  pub short : Short t s

first_at : (t s later : ℕ) (b : Bool) → nat_lt (10 * (s * s)) t ≡ b → Short t s → (10 * (s * s) < t → First t later) → First t (cond b later s)
first_at t s later true e h f = f (ltb-true _ _ e)
first_at t s later false e h f = record { enough = ltb-false _ _ e; short = h }

first_from_first : (t n s : ℕ) → Short t s → t ≤ 10 * ((s + n) * (s + n)) → First t (first_from t n s)
unfolding first_from
first_from_first t zero s h e = record { enough = subst (λ (k : ℕ). t ≤ 10 * (k * k)) (omega arith) e; short = h }
first_from_first t (suc n) s h e =
    let f : s + suc n ≡ s + 1 + n = omega arith in
    first_at t s _ _ refl h (λ k. first_from_first t n (s + 1) (short_more t s k) (subst (λ (m : ℕ). t ≤ 10 * (m * m)) f e))

below_square : (t : ℕ) → t ≤ 10 * ((0 + t) * (0 + t))
below_square zero = omega arith
below_square (suc t) = omega (arith, mul-le 1 (suc t) (suc t) (suc t) (omega arith) (omega arith))

pub least_of : (d s : ℕ) → First (981 * d) s → LeastRoot d s
least_of d s f = record { enough = f.enough; least = f.short }

pub root_least : (d : ℕ) → LeastRoot d (root_of d)
unfolding root_of
root_least d = least_of d _ (first_from_first (981 * d) (981 * d) 0 (λ s k. omega arith) (below_square (981 * d)))

not_below : (d s u : ℕ) → LeastRoot d s → LeastRoot d u → s ≤ u
not_below d s u p q =
    ⊎_elim (λ (h : u < s). let l = p.least u h in let e = q.enough in omega arith) (λ (h : s ≤ u). h) (cases_lt u s)

-- no other number is
pub root_only : (d s : ℕ) → LeastRoot d s → s ≡ root_of d
root_only d s p = omega (arith, not_below d s (root_of d) p (root_least d), not_below d (root_of d) s (root_least d) p)

-- ---- for a search by halving (no code has one now): the root is one of the size numbers from low on
pub upper_half : (t low size half : ℕ) → 0 < half → half < size → 10 * ((low + half - 1) * (low + half - 1)) < t → t ≤ 10 * ((low + size - 1) * (low + size - 1)) → Short t (low + half) × (t ≤ 10 * ((low + half + (size - half) - 1) * (low + half + (size - half) - 1)))
upper_half t low size half p q r n =
    (subst (Short t) (omega arith) (short_more t (low + half - 1) r), subst (λ (x : ℕ). t ≤ 10 * (x * x)) (omega arith) n)

pub at_end : (t low size : ℕ) → 0 < size → size ≤ 1 → Short t low → t ≤ 10 * ((low + size - 1) * (low + size - 1)) → First t low
at_end t low size p q s n = record { enough = subst (λ (x : ℕ). t ≤ 10 * (x * x)) (omega arith) n; short = s }

-- s is the least, where s is enough and the number before it is not
pub least_at : (d s : ℕ) → 0 < s → 10 * ((s - 1) * (s - 1)) < 981 * d → 981 * d ≤ 10 * (s * s) → LeastRoot d s
least_at d s p h e = record { enough = e; least = λ u l. omega (arith, square_mono u (s - 1) (omega arith)) }
