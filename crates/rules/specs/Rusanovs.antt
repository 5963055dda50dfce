-- The flux of Rusanov keeps the laws of a flux rule.
use Rattle.std.specs.Prelude.{◌≡◌, ℕ, ◌*◌, ◌^◌, ◌≤◌, ℤ, pos, ◌-ℤ◌, neg_ℤ, ◌≤ℤ◌, unsigned_abs}
use Rattle.std.proofs.Common.{arith}
use Rattle.std.proofs.Math.IntN.{neg_ℤ-neg_ℤ, neg_ℤ-+ℤ, +ℤ_comm, +ℤ_invr, +ℤ_idr, *ℤ-zero}
use Rattle.std.proofs.lemmas.Int.{ints}
use Rattle.rules.specs.Side.{Facing, face_pace, discharge}
use Rattle.rules.specs.Flux.{LawfulFlux}
use Rattle.rules.specs.Rusanov.{rusanov_water, rusanov_push}
use Rattle.rules.specs.Ints.{near_mul, mul_sub, mul_neg, quotient_neg, halved}
use Rattle.rules.specs.Sides.{discharge_near, momentum_near, face_near, paced, discharge_reversed, momentum_reversed, pace_exchanged}

module _ (dl : ℕ) (nl : ℤ) (dr : ℕ) (nr : ℤ) where
  out_bounded : rusanov_water dl nl dr nr ≤ℤ pos (face_pace dl nl dr nr * dl)
  unfolding rusanov_water
  out_bounded = omega (arith, ints, mul_sub (pos (face_pace dl nl dr nr)) (pos dr) (pos dl), paced dl nl dr nr)

  in_bounded : neg_ℤ (rusanov_water dl nl dr nr) ≤ℤ pos (face_pace dl nl dr nr * dr)
  unfolding rusanov_water
  in_bounded = omega (arith, ints, mul_sub (pos (face_pace dl nl dr nr)) (pos dr) (pos dl), paced dl nl dr nr)

  exchanged_water : rusanov_water dr (neg_ℤ nr) dl (neg_ℤ nl) ≡ neg_ℤ (rusanov_water dl nl dr nr)
  unfolding rusanov_water
  exchanged_water = simp (discharge_reversed, pace_exchanged, ← quotient_neg, neg_ℤ-+ℤ, ← mul_neg, neg_ℤ-neg_ℤ, +ℤ_comm)

  exchanged_push : rusanov_push dr (neg_ℤ nr) dl (neg_ℤ nl) ≡ rusanov_push dl nl dr nr
  unfolding rusanov_push
  exchanged_push = simp (discharge_reversed, momentum_reversed, pace_exchanged, neg_ℤ-neg_ℤ, +ℤ_comm)

  push_bounded : Facing dl nl → Facing dr nr → unsigned_abs (rusanov_push dl nl dr nr) ≤ 10 ^ 17
  unfolding rusanov_push
  push_bounded p q =
      let c = face_near dl nl dr nr p q in
      let l = discharge_near dl nl p in
      let r = discharge_near dr nr q in
      let a = near_mul (pos (20 * face_pace dl nl dr nr)) (discharge dr nr -ℤ discharge dl nl) 480160 40000000000 (omega arith) (omega (arith, ints)) in
      omega (arith, ints, momentum_near dl nl p, momentum_near dr nr q)

pub rusanov_lawful : LawfulFlux rusanov_water rusanov_push
unfolding rusanov_water rusanov_push
rusanov_lawful = record {
  out_bounded = λ dl nl dr nr p q. out_bounded dl nl dr nr;
  in_bounded = λ dl nl dr nr p q. in_bounded dl nl dr nr;
  even_water = λ d n p. simp (+ℤ_invr, *ℤ-zero, +ℤ_idr, halved);
  even_push = λ d n p. simp (+ℤ_invr, *ℤ-zero, +ℤ_idr, halved);
  exchanged_water = λ dl nl dr nr p q. exchanged_water dl nl dr nr;
  exchanged_push = λ dl nl dr nr p q. exchanged_push dl nl dr nr;
  push_bounded = push_bounded;
}
