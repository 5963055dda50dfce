-- How much a lawful flux lets through a face.
use Rattle.std.proofs.Common.{ℕ, ◌*◌, ◌^◌, ◌≤◌, ℤ, pos, ◌*ℤ◌, neg_ℤ, nat_abs, ◌≤ℤ◌, mul-le-mul, arith}
use Rattle.std.proofs.lemmas.Int.{ints}
use Rattle.rules.specs.Flux.{LawfulFlux}
use Rattle.rules.specs.Sides.{facing, face_near}
use Rattle.book.specs.Numbers.{trunc}
use Rattle.book.specs.Faces.{pace}
use Rattle.book.proofs.Numbers.{quarter_out}
use Rattle.step.specs.declared.edge.Edges.{Edges}
use Rattle.step.specs.Columns.{face_seen}

quarters : (w : ℤ) (K p l r : ℕ) → w ≤ℤ pos (p * l) → neg_ℤ w ≤ℤ pos (p * r) → 4 * p ≤ K → ((pos 4 *ℤ trunc w K) ≤ℤ pos l) × ((pos 4 *ℤ neg_ℤ (trunc w K)) ≤ℤ pos r)
quarters w K p l r h k fast = grind (arith, ints, quarter_out w K p l h fast, quarter_out (neg_ℤ w) K p r k fast)

module _ {water push : ℕ → ℤ → ℕ → ℤ → ℤ} (flux : LawfulFlux water push) (edges : Edges) where
  abbrev at_face : (ℕ → ℤ → ℕ → ℤ → ℤ) → ℤ
  at_face f = f edges.left.side.depth edges.left.side.normal edges.right.side.depth edges.right.side.normal

  -- no side loses more water than it has, at the pace of the face
  out : at_face water ≤ℤ pos (pace (face_seen edges) * edges.left.side.depth)
  out = flux.out_bounded _ _ _ _ (facing edges.left.side) (facing edges.right.side)

  back : neg_ℤ (at_face water) ≤ℤ pos (pace (face_seen edges) * edges.right.side.depth)
  back = flux.in_bounded _ _ _ _ (facing edges.left.side) (facing edges.right.side)

  pub water_near : nat_abs (at_face water) ≤ 48016000000
  water_near =
      let near : pace (face_seen edges) ≤ 24008 = face_near _ _ _ _ (facing edges.left.side) (facing edges.right.side) in
      omega (arith, ints, out, back, mul-le-mul near edges.left.side.shallow, mul-le-mul near edges.right.side.shallow)

  pub push_near : nat_abs (at_face push) ≤ 10 ^ 17
  push_near = flux.push_bounded _ _ _ _ (facing edges.left.side) (facing edges.right.side)

  -- in a step of a fast enough rate no side gives more than a quarter of its water
  pub gives : (K : ℕ) → 4 * pace (face_seen edges) ≤ K → ((pos 4 *ℤ trunc (at_face water) K) ≤ℤ pos edges.left.side.depth) × ((pos 4 *ℤ neg_ℤ (trunc (at_face water) K)) ≤ℤ pos edges.right.side.depth)
  gives K fast = quarters _ K _ _ _ out back fast
