-- In a sound table both sides of every face are in the ranges in which a flux rule answers.
use Rattle.std.proofs.Common.{◌≡◌, ℕ, zero, suc, ◌<◌, ◌≤◌, ℤ, pos, ◌+ℤ◌, ◌-ℤ◌, nat_abs, ◌≤ℤ◌, Some, None, Option, refl, zero-le, arith}
use Rattle.std.proofs.lemmas.Int.{ints}
use Rattle.book.specs.declared.cell.Cell.{Cell}
use Rattle.book.specs.declared.side.Hand.{Hand}
use Rattle.book.specs.declared.side.Hand.TheVariants.{West, South, North}
use Rattle.book.specs.declared.side.Side.{Side}
use Rattle.book.specs.declared.side.Side.TheVariants.{Wall, Open, Held, Fed}
use Rattle.rules.specs.Side.{Facing}
use Rattle.book.specs.Ranges.{max_depth, max_velocity}
use Rattle.book.specs.Numbers.{greater, where_wet}
use Rattle.book.specs.Faces.{Column, column, ghost, inward, above, meet, face_of, own_depth}
use Rattle.book.specs.Sheets.{Table, Place, cell_at, side_at, neighbour, seen, beyond, face}
use Rattle.book.proofs.Sound.{Ranged, Sound, GhostKept, FacingBoth}
use Rattle.book.proofs.Numbers.{positive_le, greater_left, greater_right}
use Rattle.book.proofs.Neighbours.{Stands, stands}

record Good (k : Column) : Type 0 where
  shallow : k.depth ≤ max_depth
  slow : nat_abs k.normal ≤ max_velocity

-- ---- the sides of a face

side_below : (b : ℤ) (k : Column) → k.bed ≤ℤ b → (above b k).depth ≤ k.depth
side_below b k h = positive_le ((pos k.depth +ℤ k.bed) -ℤ b) k.depth (omega (arith, ints))

wet_slow : (d : ℕ) (v : ℤ) → nat_abs v ≤ max_velocity → nat_abs (where_wet d v) ≤ max_velocity
wet_slow zero v h = zero-le
wet_slow (suc d) v h = h

side_facing : (b : ℤ) (k : Column) → k.bed ≤ℤ b → Good k → Facing (above b k).depth (above b k).normal
side_facing b k h g = record {
  shallow = omega (arith, side_below b k h, g.shallow);
  slow = wet_slow (above b k).depth k.normal g.slow;
  dry = λ e. rw e;
}

meet_facing : (l r : Column) → Good l → Good r → FacingBoth (meet l r)
meet_facing l r g h = record {
  left = side_facing (greater l.bed r.bed) l (greater_left l.bed r.bed) g;
  right = side_facing (greater l.bed r.bed) r (greater_right l.bed r.bed) h;
}

face_facing : (hand : Hand) (own far : Column) → Good own → Good far → FacingBoth (face_of hand own far)
face_facing West own far g h = meet_facing far own h g
face_facing South own far g h = meet_facing far own h g
face_facing hand own far g h = meet_facing own far g h

-- ---- columns

column_bed : (hand : Hand) (k : Cell) → (column hand k).bed ≡ k.bed
column_bed West k = refl
column_bed hand k = refl

column_good : (hand : Hand) (k : Cell) → Ranged k → Good (column hand k)
column_good South k h = record { shallow = h.depth; slow = h.slow_north }
column_good North k h = record { shallow = h.depth; slow = h.slow_north }
column_good hand k h = record { shallow = h.depth; slow = h.slow_east }

inward_abs : (hand : Hand) (b : ℕ) → nat_abs (inward hand b) ≡ b
inward_abs West b = omega (arith, ints)
inward_abs hand b = omega (arith, ints)

ghost_good : (s : Side) (hand : Hand) (k : Cell) → Ranged k → GhostKept s k → Good (ghost s hand (column hand k))
ghost_good Wall hand k h b = let g = column_good hand k h in record { shallow = g.shallow; slow = omega (arith, ints, g.slow) }
ghost_good Open hand k h b = column_good hand k h
ghost_good (Held a) hand k h b = record { shallow = rw column_bed b; slow = (column_good hand k h).slow }
ghost_good (Fed a v) hand k h b = record { shallow = b.1; slow = omega (arith, inward_abs hand v, b.2) }

-- ---- faces of a table

module _ (t : Table) (sound : Sound t) (r c : ℕ) (p : r < t.rows) (q : c < t.columns) (hand : Hand) where
  seen_good : (o : Option Place) → Stands t r c hand o → Good (seen t r c hand o)
  seen_good (Some x) h = column_good hand (cell_at t x.row x.column) (sound.ranged x.row x.column h.0 h.1)
  seen_good None b = ghost_good (side_at t hand) hand (cell_at t r c) (sound.ranged r c p q) b

  pub faces_sound : FacingBoth (face t r c hand)
  faces_sound =
      face_facing hand (column hand (cell_at t r c)) (beyond t r c hand) (column_good hand (cell_at t r c) (sound.ranged r c p q))
      (seen_good (neighbour t r c hand) (stands t sound r c p q hand))

-- a cell's own depth at a face is no more than its depth
pub own_below : (t : Table) (r c : ℕ) (hand : Hand) → own_depth hand (face t r c hand) ≤ (cell_at t r c).depth
own_below t r c West = side_below _ (column West (cell_at t r c)) (greater_right _ _)
own_below t r c South = side_below _ (column South (cell_at t r c)) (greater_right _ _)
own_below t r c hand = side_below _ (column hand (cell_at t r c)) (greater_left _ _)
