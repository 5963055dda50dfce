-- The flux of Harten, Lax and van Leer keeps the laws of a flux rule.
use Rattle.std.specs.Prelude.{◌≡◌, ℕ, ◌*◌, ℤ, pos, neg_ℤ, ◌≤ℤ◌, ◌<ℤ◌}
use Rattle.std.proofs.Common.{refl, arith}
use Rattle.std.proofs.lemmas.Int.{ints, clamps}
use Rattle.rules.specs.Side.{Facing, pace_of, face_pace, discharge, momentum}
use Rattle.rules.specs.Flux.{LawfulFlux}
use Rattle.rules.specs.Hll.{Apart, slow_wave, fast_wave, slowest, fastest, by_waves, fan_water, fan_push, hll_water, hll_push}
use Rattle.rules.specs.Sides.{discharge_near, momentum_near, face_near, paced, discharge_reversed, momentum_reversed, slow_reversed, fast_reversed, pace_exchanged, becalmed, discharge_dry, momentum_dry}
use Rattle.rules.specs.Fans.{fan_le, fan_even, fan_exchanged, fan_push_near, fan_push_even, fan_push_exchanged}

-- ---- by the waves
module _ (a b x y z : ℤ) where
  pub by_right : pos 0 ≤ℤ a → by_waves a b x y z ≡ x
  unfolding by_waves
  by_right h = grind (arith, ints)

  pub by_left : a <ℤ pos 0 → b ≤ℤ pos 0 → by_waves a b x y z ≡ z
  unfolding by_waves
  by_left h k = grind (arith, ints)

  pub by_fan : a <ℤ pos 0 → pos 0 <ℤ b → by_waves a b x y z ≡ y
  unfolding by_waves
  by_fan h k = grind (arith, ints)

-- ---- the waves of a face
module _ (dl : ℕ) (nl : ℤ) (dr : ℕ) (nr : ℤ) where
  waves_exchanged : (slowest dr (neg_ℤ nr) dl (neg_ℤ nl) ≡ neg_ℤ (fastest dl nl dr nr)) × (fastest dr (neg_ℤ nr) dl (neg_ℤ nl) ≡ neg_ℤ (slowest dl nl dr nr))
  unfolding slowest fastest
  waves_exchanged = simp (slow_reversed, fast_reversed) (omega (arith, ints, clamps))

  between : (slowest dl nl dr nr ≤ℤ nl) × (nl ≤ℤ fastest dl nl dr nr) × (nr ≤ℤ fastest dl nl dr nr)
  unfolding slowest fastest slow_wave fast_wave
  between = omega (arith, ints, clamps)

  pub apart : slowest dl nl dr nr <ℤ pos 0 → pos 0 <ℤ fastest dl nl dr nr → Apart (face_pace dl nl dr nr) (slowest dl nl dr nr) (fastest dl nl dr nr)
  unfolding slowest fastest slow_wave fast_wave face_pace pace_of
  apart = omega (arith, ints, clamps)

  -- where the slowest does not go left and the fastest does not go right, there is no water
  calm : pos 0 ≤ℤ slowest dl nl dr nr → fastest dl nl dr nr ≤ℤ pos 0 → (discharge dl nl ≡ discharge dr nr) × (momentum dl nl ≡ momentum dr nr)
  unfolding slowest fastest
  calm h k =
      let l = becalmed dl nl (omega (arith, ints, clamps)) (omega (arith, ints, clamps)) in
      let r = becalmed dr nr (omega (arith, ints, clamps)) (omega (arith, ints, clamps)) in
      rw (discharge_dry dl nl l, discharge_dry dr nr r, momentum_dry dl nl l, momentum_dry dr nr r) (refl, refl)

  -- ---- the laws
  out_bounded : hll_water dl nl dr nr ≤ℤ pos (face_pace dl nl dr nr * dl)
  unfolding hll_water discharge by_waves
  out_bounded = grind (arith, ints, paced, between, apart, fan_le)

  exchanged_water : hll_water dr (neg_ℤ nr) dl (neg_ℤ nl) ≡ neg_ℤ (hll_water dl nl dr nr)
  unfolding hll_water by_waves
  exchanged_water = simp (waves_exchanged.0, waves_exchanged.1, discharge_reversed, fan_exchanged) (grind (arith, ints, calm))

  exchanged_push : hll_push dr (neg_ℤ nr) dl (neg_ℤ nl) ≡ hll_push dl nl dr nr
  unfolding hll_push by_waves
  exchanged_push = simp (waves_exchanged.0, waves_exchanged.1, discharge_reversed, momentum_reversed, fan_push_exchanged) (grind (arith, ints, calm))

  pub wide_apart : Facing dl nl → Facing dr nr → slowest dl nl dr nr <ℤ pos 0 → pos 0 <ℤ fastest dl nl dr nr → Apart 24008 (slowest dl nl dr nr) (fastest dl nl dr nr)
  wide_apart p q h k = omega (arith, ints, apart h k, face_near dl nl dr nr p q)

in_bounded : (dl : ℕ) (nl : ℤ) (dr : ℕ) (nr : ℤ) → neg_ℤ (hll_water dl nl dr nr) ≤ℤ pos (face_pace dl nl dr nr * dr)
in_bounded dl nl dr nr = rw (← exchanged_water dl nl dr nr) (rw pace_exchanged at (out_bounded dr (neg_ℤ nr) dl (neg_ℤ nl)))

even_water : (d : ℕ) (n : ℤ) → hll_water d n d n ≡ discharge d n
unfolding hll_water by_waves
even_water d n = grind (arith, ints, fan_even)

even_push : (d : ℕ) (n : ℤ) → hll_push d n d n ≡ momentum d n
unfolding hll_push by_waves
even_push d n = grind (arith, ints, fan_push_even)

pub hll_lawful : LawfulFlux hll_water hll_push
unfolding hll_push by_waves
hll_lawful = record {
  out_bounded = λ dl nl dr nr p q. out_bounded dl nl dr nr;
  in_bounded = λ dl nl dr nr p q. in_bounded dl nl dr nr;
  even_water = λ d n p. even_water d n;
  even_push = λ d n p. even_push d n;
  exchanged_water = λ dl nl dr nr p q. exchanged_water dl nl dr nr;
  exchanged_push = λ dl nl dr nr p q. exchanged_push dl nl dr nr;
  push_bounded = λ dl nl dr nr p q. grind (arith, ints, wide_apart, fan_push_near, momentum_near, discharge_near);
}

-- ---- what the code comes to, by the ways of the waves
module _ (dl : ℕ) (nl : ℤ) (dr : ℕ) (nr : ℤ) where
  pub goes_right : pos 0 ≤ℤ slowest dl nl dr nr → (hll_water dl nl dr nr ≡ discharge dl nl) × (hll_push dl nl dr nr ≡ momentum dl nl)
  unfolding hll_water hll_push
  goes_right h = (by_right _ _ _ _ _ h, by_right _ _ _ _ _ h)

  pub goes_left : slowest dl nl dr nr <ℤ pos 0 → fastest dl nl dr nr ≤ℤ pos 0 → (hll_water dl nl dr nr ≡ discharge dr nr) × (hll_push dl nl dr nr ≡ momentum dr nr)
  unfolding hll_water hll_push
  goes_left h k = (by_left _ _ _ _ _ h k, by_left _ _ _ _ _ h k)

  pub goes_apart : (c1 c2 : ℤ) → c1 ≡ slowest dl nl dr nr → c2 ≡ fastest dl nl dr nr → slowest dl nl dr nr <ℤ pos 0 → pos 0 <ℤ fastest dl nl dr nr → (fan_water c1 c2 (discharge dl nl) (discharge dr nr) dl dr ≡ hll_water dl nl dr nr) × (fan_push c1 c2 (discharge dl nl) (discharge dr nr) (momentum dl nl) (momentum dr nr) ≡ hll_push dl nl dr nr)
  unfolding hll_water hll_push by_waves
  goes_apart c1 c2 e f h k = grind (arith, ints)
