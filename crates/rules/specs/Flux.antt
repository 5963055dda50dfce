-- What every flux rule owes. A rule means two functions of four numbers, the depth and the normal velocity on the left and on the right.
use Rattle.std.specs.Prelude.{◌≡◌, ℕ, ◌*◌, ◌^◌, ◌≤◌, ℤ, pos, neg_ℤ, ◌≤ℤ◌, unsigned_abs}
use Rattle.rules.specs.Side.{Facing, face_pace, discharge, momentum}

pub record LawfulFlux (water push : ℕ → ℤ → ℕ → ℤ → ℤ) : Type 0 where
  -- neither side loses more water than it has, at the pace of the face
  pub out_bounded : (dl : ℕ) (nl : ℤ) (dr : ℕ) (nr : ℤ) → Facing dl nl → Facing dr nr → water dl nl dr nr ≤ℤ pos (face_pace dl nl dr nr * dl)
  pub in_bounded : (dl : ℕ) (nl : ℤ) (dr : ℕ) (nr : ℤ) → Facing dl nl → Facing dr nr → neg_ℤ (water dl nl dr nr) ≤ℤ pos (face_pace dl nl dr nr * dr)
  -- between equal sides passes what each of them carries
  pub even_water : (d : ℕ) (n : ℤ) → Facing d n → water d n d n ≡ discharge d n
  pub even_push : (d : ℕ) (n : ℤ) → Facing d n → push d n d n ≡ momentum d n
  -- with the sides exchanged and both velocities reversed, the water is reversed and the push is the same
  pub exchanged_water : (dl : ℕ) (nl : ℤ) (dr : ℕ) (nr : ℤ) → Facing dl nl → Facing dr nr → water dr (neg_ℤ nr) dl (neg_ℤ nl) ≡ neg_ℤ (water dl nl dr nr)
  pub exchanged_push : (dl : ℕ) (nl : ℤ) (dr : ℕ) (nr : ℤ) → Facing dl nl → Facing dr nr → push dr (neg_ℤ nr) dl (neg_ℤ nl) ≡ push dl nl dr nr
  pub push_bounded : (dl : ℕ) (nl : ℤ) (dr : ℕ) (nr : ℤ) → Facing dl nl → Facing dr nr → unsigned_abs (push dl nl dr nr) ≤ 10 ^ 17
