-- The state between two waves a < 0 < b that go apart: its bounds, between equal sides, and seen from across the face.
use Rattle.std.specs.Prelude.{◌≡◌, ℕ, ◌+◌, ◌*◌, ◌^◌, ◌<◌, ◌≤◌, ℤ, pos, ◌+ℤ◌, ◌-ℤ◌, ◌*ℤ◌, neg_ℤ, ◌≤ℤ◌, ◌<ℤ◌, int_div, unsigned_abs}
use Rattle.std.proofs.Common.{mul-le-mul_left, arith}
use Rattle.std.proofs.Math.IntN.{neg_ℤ-neg_ℤ, neg_ℤ-+ℤ, +ℤ_comm, +ℤ_invr, +ℤ_idr, *ℤ_comm, *ℤ-zero}
use Rattle.std.proofs.Math.Nat.{div-le_of_le-mul, mul-div-le}
use Rattle.std.proofs.lemmas.Int.{ints, unsigned_abs-mul}
use Rattle.std.proofs.lemmas.Nat.{mul-le}
use Rattle.rules.specs.Hll.{Apart, fan_water, fan_push}
use Rattle.rules.specs.Ints.{mul_sub, sub_mul, mul_neg, neg_mul, near_mul, abs_quot, quot_le, quot_whole, quotient_neg, halved}

pub width_pos : (a b : ℤ) → a <ℤ pos 0 → pos 0 <ℤ b → pos 0 <ℤ (b -ℤ a)
width_pos a b h k = omega (arith, ints)

pub width : (a b : ℤ) → a <ℤ pos 0 → pos 0 <ℤ b → b -ℤ a ≡ pos (unsigned_abs a + unsigned_abs b)
width a b h k = omega (arith, ints)

pub lean_near : (a b x : ℤ) (n : ℕ) → a <ℤ pos 0 → pos 0 <ℤ b → unsigned_abs x ≤ n → unsigned_abs ((a +ℤ b) *ℤ int_div x (b -ℤ a)) ≤ n
lean_near a b x n h k l =
    let s : unsigned_abs (a +ℤ b) ≤ unsigned_abs (b -ℤ a) = omega (arith, ints) in
    grind (arith, unsigned_abs-mul, abs_quot, mul-div-le)

pub jump_near : (a b : ℤ) → a <ℤ pos 0 → pos 0 <ℤ b → unsigned_abs (int_div (pos 20 *ℤ (a *ℤ b)) (b -ℤ a)) ≤ 20 * unsigned_abs a
jump_near a b h k = simp (width, abs_quot, unsigned_abs-mul) (div-le_of_le-mul _ (omega arith))

-- ---- the water
-- of two discharges and two depths, times b - a
abbrev top : ℤ → ℤ → ℤ → ℤ → ℕ → ℕ → ℤ
top a b p q d e = ((b *ℤ p) -ℤ (a *ℤ q)) +ℤ ((a *ℤ b) *ℤ (pos e -ℤ pos d))

top_parts : (A B X Y d e : ℕ) → top (neg_ℤ (pos A)) (pos B) (pos d *ℤ (pos X -ℤ pos A)) (pos e *ℤ (pos B -ℤ pos Y)) d e ≡ pos (B * (d * X)) -ℤ pos (A * (e * Y))
top_parts A B X Y d e = simp (mul_sub, neg_mul) (omega (arith, ints))

pub top_is : (a b n v : ℤ) (d e : ℕ) → a <ℤ pos 0 → pos 0 <ℤ b → a ≤ℤ n → v ≤ℤ b → top a b (pos d *ℤ n) (pos e *ℤ v) d e ≡ pos (unsigned_abs b * (d * unsigned_abs (n -ℤ a))) -ℤ pos (unsigned_abs a * (e * unsigned_abs (b -ℤ v)))
top_is a b n v d e h k l o =
    let A = unsigned_abs a in
    let B = unsigned_abs b in
    let X = unsigned_abs (n -ℤ a) in
    let Y = unsigned_abs (b -ℤ v) in
    let p : a ≡ neg_ℤ (pos A) = omega (arith, ints) in
    let q : b ≡ pos B = omega (arith, ints) in
    let r : n ≡ pos X -ℤ pos A = omega (arith, ints) in
    let s : v ≡ pos B -ℤ pos Y = omega (arith, ints) in
    cc (top_parts A B X Y d e)

pub top_exchanged : (a b p q : ℤ) (d e : ℕ) → top (neg_ℤ b) (neg_ℤ a) (neg_ℤ q) (neg_ℤ p) e d ≡ neg_ℤ (top a b p q d e)
top_exchanged a b p q d e = simp (neg_ℤ-+ℤ, neg_mul, mul_neg, neg_ℤ-neg_ℤ, mul_sub, +ℤ_comm, *ℤ_comm)

pub fan_le : (m : ℕ) (a b n v : ℤ) (d e : ℕ) → Apart m a b → a ≤ℤ n → n ≤ℤ b → v ≤ℤ b → fan_water a b (pos d *ℤ n) (pos e *ℤ v) d e ≤ℤ pos (m * d)
unfolding fan_water
fan_le m a b n v d e f l o u =
    let A = unsigned_abs a in
    let B = unsigned_abs b in
    let X = unsigned_abs (n -ℤ a) in
    let x : X ≤ A + B = omega (arith, ints, f) in
    let t = top_is a b n v d e f.left f.right l u in
    let g = mul-le-mul_left d (mul-le B X m (A + B) f.high x) in
    rw (width a b f.left f.right, t) (quot_le _ (A + B) (m * d) (omega (arith, ints)) (omega (arith, ints)))

pub fan_even : (a b p : ℤ) (d : ℕ) → a <ℤ pos 0 → pos 0 <ℤ b → fan_water a b p p d d ≡ p
unfolding fan_water
fan_even a b p d h k =
    let z : 0 < unsigned_abs a + unsigned_abs b = omega (arith, ints) in
    simp (+ℤ_invr, *ℤ-zero, +ℤ_idr, ← sub_mul, width, quot_whole)

pub fan_exchanged : (a b p q : ℤ) (d e : ℕ) → fan_water (neg_ℤ b) (neg_ℤ a) (neg_ℤ q) (neg_ℤ p) e d ≡ neg_ℤ (fan_water a b p q d e)
unfolding fan_water
fan_exchanged a b p q d e =
    let w : neg_ℤ a -ℤ neg_ℤ b ≡ b -ℤ a = omega (arith, ints) in
    rw (top_exchanged a b p q d e, w) (quotient_neg (top a b p q d e) (b -ℤ a))

-- the other side's, from across the face
pub fan_ge : (m : ℕ) (a b n v : ℤ) (d e : ℕ) → Apart m a b → a ≤ℤ n → a ≤ℤ v → v ≤ℤ b → neg_ℤ (fan_water a b (pos d *ℤ n) (pos e *ℤ v) d e) ≤ℤ pos (m * e)
fan_ge m a b n v d e f l o u =
    rw (← fan_exchanged a b (pos d *ℤ n) (pos e *ℤ v) d e, ← mul_neg (pos e) v, ← mul_neg (pos d) n)
    (fan_le m (neg_ℤ b) (neg_ℤ a) (neg_ℤ v) (neg_ℤ n) e d (omega (arith, ints, f)) (omega (arith, ints)) (omega (arith, ints)) (omega (arith, ints)))

-- ---- the push
pub fan_push_near : (a b f g p q : ℤ) → Apart 24008 a b → unsigned_abs f ≤ 7924000000000000 → unsigned_abs g ≤ 7924000000000000 → unsigned_abs p ≤ 20000000000 → unsigned_abs q ≤ 20000000000 → unsigned_abs (fan_push a b p q f g) ≤ 10 ^ 17
unfolding fan_push
fan_push_near a b f g p q w h i j k =
    let l = lean_near a b (f -ℤ g) 15848000000000000 w.left w.right (omega (arith, ints)) in
    let v = near_mul (int_div (pos 20 *ℤ (a *ℤ b)) (b -ℤ a)) (q -ℤ p) 480160 40000000000 (omega (arith, jump_near a b w.left w.right, w.low)) (omega (arith, ints)) in
    omega (arith, ints)

pub fan_push_even : (a b f p : ℤ) → fan_push a b p p f f ≡ f
unfolding fan_push
fan_push_even a b f p =
    let o : (z : ℤ) → int_div (pos 0) z ≡ pos 0 = λ z. grind (arith, ints) in
    simp (+ℤ_invr, o, *ℤ-zero, +ℤ_idr, halved)

pub fan_push_exchanged : (a b f g p q : ℤ) → fan_push (neg_ℤ b) (neg_ℤ a) (neg_ℤ q) (neg_ℤ p) g f ≡ fan_push a b p q f g
unfolding fan_push
fan_push_exchanged a b f g p q =
    let m : g -ℤ f ≡ neg_ℤ (f -ℤ g) = omega (arith, ints) in
    simp (m, ← neg_ℤ-+ℤ, +ℤ_comm, neg_mul, mul_neg, neg_ℤ-neg_ℤ, quotient_neg, *ℤ_comm)
