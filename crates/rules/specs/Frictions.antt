-- Numbers by size and sign, what drag leaves of a flow, and the laws of the friction rules.
use Rattle.std.specs.Prelude.{◌≡◌, ℕ, ◌+◌, ◌-◌, ◌*◌, ◌<◌, ◌≤◌, ℤ, pos, neg_ℤ, ◌≤ℤ◌, ◌<ℤ◌, unsigned_abs}
use Rattle.std.proofs.Common.{arith}
use Rattle.std.proofs.Math.Nat.{div-add-mod, div-le_of_le-mul}
use Rattle.std.proofs.lemmas.Int.{ints}
use Rattle.rules.specs.Drag.{quot_up, dragged, with_size}
use Rattle.rules.specs.Friction.{Slowing, LawfulFriction}
use Rattle.rules.specs.BareBed.{bare_slowed}

-- ---- a size with a sign
pub size_back : (q : ℤ) (n : ℕ) (x : ℤ) → q <ℤ pos 0 → x ≡ neg_ℤ (pos n) → x ≡ with_size q n
size_back q n x h e = grind (arith, ints)

pub size_on : (q : ℤ) (n : ℕ) (x : ℤ) → pos 0 ≤ℤ q → x ≡ pos n → x ≡ with_size q n
size_on q n x h e = grind (arith, ints)

-- ---- drag
-- what is left of a flow of size n
abbrev pub size_dragged : ℕ → ℕ → ℕ → ℕ
size_dragged a b n = n - quot_up (n * b) (a + b)

pub takes_within : (a b n : ℕ) → 0 < a → quot_up (n * b) (a + b) ≤ n
unfolding quot_up
takes_within a b n p = grind (arith, div-add-mod, div-le_of_le-mul)

pub dragged_is : (a b : ℕ) (q : ℤ) → 0 < a → dragged a b q ≡ with_size q (size_dragged a b (unsigned_abs q))
unfolding dragged quot_up
dragged_is a b q p = let h = takes_within a b (unsigned_abs q) p in grind (arith, ints)

-- ---- laws
-- a rule that leaves of each flow a size that depends on its size alone, and is no larger, keeps the laws
pub sized_lawful : (slowed : ℤ → ℕ → ℕ → ℕ → ℤ) (left : ℕ → ℕ → ℕ → ℕ → ℕ) → ((n u h d : ℕ) → left n u h d ≤ n) → ((q : ℤ) (u h d : ℕ) → Slowing q u h d → slowed q u h d ≡ with_size q (left (unsigned_abs q) u h d)) → LawfulFriction slowed
sized_lawful slowed left within is = record {
  same_sign = λ q u h d s. rw (is q u h d s) (grind (arith, ints));
  no_larger = λ q u h d s. rw (is q u h d s) (grind (arith, ints, within));
  reversed = λ q u h d s.
      let e : unsigned_abs (neg_ℤ q) ≡ unsigned_abs q = omega (arith, ints) in
      let l = within (unsigned_abs q) u h d in
      rw (is (neg_ℤ q) u h d (omega (arith, s)), is q u h d s, e) (grind (arith, ints));
}

pub hold_pos : (d h : ℕ) → 1 ≤ d → 1 ≤ h → 0 < 80 * (d * h)
hold_pos d h p q = grind arith

pub bare_lawful : (c : ℕ) → LawfulFriction (bare_slowed c)
unfolding bare_slowed
bare_lawful c = sized_lawful (bare_slowed c) (λ n u h d. size_dragged (80 * (d * h)) (c * u) n) (λ n u h d. omega arith) (λ q u h d s. dragged_is (80 * (d * h)) (c * u) q (hold_pos d h s.some_rate s.wet))
