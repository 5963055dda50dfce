-- One step of one cell: the turned faces make of the turned cell the new cell, turned.
use Rattle.std.proofs.Common.{⊎_elim, ◌≡◌, ℕ, ◌≤◌, Bool, false, ◌||◌, ltb, ℤ, pos, ◌*ℤ◌, neg_ℤ, nat_abs, refl, ap, arith}
use lib.IntN.{neg_ℤ-neg_ℤ}
use lib.Signed.{lt_z}
use Rattle.std.proofs.lemmas.Int.{ints}
use Rattle.std.proofs.lemmas.Bool.{cases_Bool}
use Rattle.book.specs.declared.cell.Cell.{Cell}
use Rattle.book.specs.declared.side.Hand.{Hand}
use Rattle.book.specs.declared.side.Hand.TheVariants.{West, East, South, North}
use Rattle.rules.specs.Flux.{LawfulFlux}
use Rattle.rules.specs.Friction.{LawfulFriction}
use Rattle.rules.specs.Side.{face_pace, pace_of}
use Rattle.book.specs.declared.turn.Turn.{Turn}
use Rattle.book.specs.declared.turn.Turn.TheVariants.{EastWest, SouthNorth, RowsColumns}
use Rattle.book.specs.Ranges.{max_depth, max_velocity, max_rate}
use Rattle.book.specs.Numbers.{film, trunc, thinned, positive, velocity}
use Rattle.book.specs.Faces.{Face, pace}
use Rattle.book.specs.Step.{Rules, all_hands, speed, past_brim, water, push, carried, outward, gives, takes, east_thrust, north_thrust, depth_after, raw_east, raw_north, brim_after, cell_after}
use Rattle.book.specs.Turns.{turned_hand, turned_cell}
use Rattle.book.proofs.Sound.{Ranged, FacingBoth}
use Rattle.rules.specs.Ints.{mul_neg, quot_neg}
use Rattle.book.proofs.Numbers.{share_neg, velocity_neg, speed_neg, thinned_neg, friction_speed_neg_east, friction_speed_neg_north, friction_speed_swap, carried_swap}
use Rattle.std.proofs.Math.Bool.{or_assoc, or_comm}
use Rattle.book.proofs.Steps.{BelowBrim, below_brim, slowing}
use Rattle.book.proofs.TurnedFaces.{flip, counter, turned_face}

-- ---- faces

pace_flip : (f : Face) → pace (flip f) ≡ pace f
unfolding face_pace pace_of
pace_flip f = omega (arith, ints)

pub pace_turned : (τ : Turn) (hand : Hand) (f : Face) → pace (turned_face τ hand f) ≡ pace f
pace_turned EastWest West f = pace_flip f
pace_turned EastWest East f = pace_flip f
pace_turned SouthNorth South f = pace_flip f
pace_turned SouthNorth North f = pace_flip f
pace_turned RowsColumns West f = refl
pace_turned τ hand f = refl

module _ (rules : Rules) (flux : LawfulFlux rules.water rules.push) where
  water_flip : (f : Face) → FacingBoth f → water rules (flip f) ≡ neg_ℤ (water rules f)
  water_flip f h = flux.exchanged_water f.left.depth f.left.normal f.right.depth f.right.normal h.left h.right

  push_flip : (f : Face) → FacingBoth f → push rules (flip f) ≡ push rules f
  push_flip f h = flux.exchanged_push f.left.depth f.left.normal f.right.depth f.right.normal h.left h.right

  carried_flip : (f : Face) → FacingBoth f → carried rules (flip f) ≡ neg_ℤ (carried rules f)
  carried_flip f h = rw (water_flip f h) (carried_swap (water rules f) f.left.along f.right.along)

  carried_counter : (f : Face) → carried rules (counter f) ≡ neg_ℤ (carried rules f)
  carried_counter f = ⊎_elim (λ e. rw e (mul_neg (pos 20 *ℤ water rules f) _)) (λ e. rw e (mul_neg (pos 20 *ℤ water rules f) _)) (cases_Bool (lt_z (pos 0) (water rules f)))

  trunc_flip : (K : ℕ) (f : Face) → FacingBoth f → trunc (water rules (flip f)) K ≡ neg_ℤ (trunc (water rules f) K)
  trunc_flip K f h = rw (water_flip f h, quot_neg)

  outward_turned : (τ : Turn) (hand : Hand) (K : ℕ) (f : Face) → FacingBoth f → outward rules K hand (turned_face τ hand f) ≡ outward rules K (turned_hand τ hand) f
  outward_turned EastWest West K f h = rw (trunc_flip K f h, neg_ℤ-neg_ℤ)
  outward_turned EastWest East K f h = trunc_flip K f h
  outward_turned SouthNorth South K f h = rw (trunc_flip K f h, neg_ℤ-neg_ℤ)
  outward_turned SouthNorth North K f h = trunc_flip K f h
  outward_turned RowsColumns West K f h = refl
  outward_turned τ hand K f h = refl

-- ---- the turned cell

all_turned : (τ : Turn) (f g : Hand → ℕ) → ((hand : Hand) → f hand ≡ g (turned_hand τ hand)) → all_hands f ≡ all_hands g
all_turned EastWest f g h = omega (arith, h West, h East, h South, h North)
all_turned τ f g h = omega (arith, h West, h East, h South, h North)

pub depth_kept : (τ : Turn) (k : Cell) → (turned_cell τ k).depth ≡ k.depth
depth_kept EastWest k = refl
depth_kept τ k = refl

speed_turned : (τ : Turn) (k : Cell) → speed (turned_cell τ k) ≡ speed k
speed_turned EastWest k = rw (velocity_neg, friction_speed_neg_east)
speed_turned SouthNorth k = rw (velocity_neg, friction_speed_neg_north)
speed_turned RowsColumns k = friction_speed_swap (velocity k.east k.depth) (velocity k.north k.depth)

or_last : (a b c : Bool) → ((a || b) || c) ≡ ((a || c) || b)
or_last a b c = cc (or_assoc a b c, or_comm b c, or_assoc a c b)

brim_swap : (h : ℕ) (e n : ℤ) → past_brim h n e ≡ past_brim h e n
brim_swap h e n = rw (or_last (ltb max_depth h) (ltb max_velocity (nat_abs (velocity n h))))

-- the turned faces, seen from the turned cell
abbrev pub turned_faces : Turn → (Hand → Face) → Hand → Face
turned_faces τ F hand = turned_face τ hand (F (turned_hand τ hand))

module _ (rules : Rules) (flux : LawfulFlux rules.water rules.push) where
  pub gives_turned : (τ : Turn) (hand : Hand) (k : ℕ) (f : Face) → FacingBoth f → gives rules k hand (turned_face τ hand f) ≡ gives rules k (turned_hand τ hand) f
  gives_turned τ hand k f h = ap positive (outward_turned rules flux τ hand k f h)

  pub takes_turned : (τ : Turn) (hand : Hand) (k : ℕ) (f : Face) → FacingBoth f → takes rules k hand (turned_face τ hand f) ≡ takes rules k (turned_hand τ hand) f
  takes_turned τ hand k f h = ap (λ z. positive (neg_ℤ z)) (outward_turned rules flux τ hand k f h)

  module _ (cell : Cell) (F : Hand → Face) (facing : (hand : Hand) → FacingBoth (F hand)) where
    east_thrust_columns : east_thrust rules (turned_cell EastWest cell) (turned_faces EastWest F) ≡ neg_ℤ (east_thrust rules cell F)
    east_thrust_columns =
        omega (arith, ints, push_flip rules flux (F West) (facing West), push_flip rules flux (F East) (facing East), carried_counter rules flux (F North), carried_counter rules flux (F South))

    north_thrust_columns : north_thrust rules (turned_cell EastWest cell) (turned_faces EastWest F) ≡ north_thrust rules cell F
    north_thrust_columns = omega (arith, ints, carried_flip rules flux (F West) (facing West), carried_flip rules flux (F East) (facing East))

    north_thrust_rows : north_thrust rules (turned_cell SouthNorth cell) (turned_faces SouthNorth F) ≡ neg_ℤ (north_thrust rules cell F)
    north_thrust_rows =
        omega (arith, ints, push_flip rules flux (F South) (facing South), push_flip rules flux (F North) (facing North), carried_counter rules flux (F East), carried_counter rules flux (F West))

    east_thrust_rows : east_thrust rules (turned_cell SouthNorth cell) (turned_faces SouthNorth F) ≡ east_thrust rules cell F
    east_thrust_rows = omega (arith, ints, carried_flip rules flux (F South) (facing South), carried_flip rules flux (F North) (facing North))

    module _ (k : ℕ) where
      depth_turned : (τ : Turn) → depth_after rules (turned_cell τ cell) (turned_faces τ F) k ≡ depth_after rules cell F k
      depth_turned τ =
          omega (
            arith,
            depth_kept τ cell,
            all_turned τ _ (λ hand. takes rules k hand (F hand)) (λ hand. takes_turned τ hand k (F (turned_hand τ hand)) (facing (turned_hand τ hand))),
            all_turned τ _ (λ hand. gives rules k hand (F hand)) (λ hand. gives_turned τ hand k (F (turned_hand τ hand)) (facing (turned_hand τ hand))),
          )

      east_columns : raw_east rules (turned_cell EastWest cell) (turned_faces EastWest F) k ≡ neg_ℤ (raw_east rules cell F k)
      east_columns = rw (east_thrust_columns, share_neg) (omega (arith, ints))

      north_columns : raw_north rules (turned_cell EastWest cell) (turned_faces EastWest F) k ≡ raw_north rules cell F k
      north_columns = rw north_thrust_columns

      north_rows : raw_north rules (turned_cell SouthNorth cell) (turned_faces SouthNorth F) k ≡ neg_ℤ (raw_north rules cell F k)
      north_rows = rw (north_thrust_rows, share_neg) (omega (arith, ints))

      east_rows : raw_east rules (turned_cell SouthNorth cell) (turned_faces SouthNorth F) k ≡ raw_east rules cell F k
      east_rows = rw east_thrust_rows

      pub brim_turned : (τ : Turn) → brim_after rules (turned_cell τ cell) (turned_faces τ F) k ≡ brim_after rules cell F k
      brim_turned EastWest = rw (depth_turned EastWest, east_columns, north_columns, speed_neg)
      brim_turned SouthNorth = rw (depth_turned SouthNorth, east_rows, north_rows, speed_neg)
      brim_turned RowsColumns = rw (depth_turned RowsColumns) (brim_swap _ _ _)

      -- ---- friction

      module _ (friction : LawfulFriction rules.slowed) (rate : ℕ) (ranged : Ranged cell) (low : 1 ≤ rate) (high : rate ≤ max_rate) (brim : brim_after rules cell F k ≡ false) where
        abbrev flow : ℕ → ℤ → ℕ → ℤ
        flow h q u = thinned h (rules.slowed q u h rate)

        below : film ≤ depth_after rules cell F k → BelowBrim (depth_after rules cell F k) (raw_east rules cell F k) (raw_north rules cell F k)
        below deep = below_brim _ _ _ brim deep

        reversed : (q : ℤ) → (film ≤ depth_after rules cell F k → nat_abs (velocity q (depth_after rules cell F k)) ≤ max_velocity) → flow (depth_after rules cell F k) (neg_ℤ q) (speed cell) ≡ neg_ℤ (flow (depth_after rules cell F k) q (speed cell))
        reversed q slow = thinned_neg (depth_after rules cell F k) _ _ (λ deep. friction.reversed q (speed cell) _ rate (slowing cell ranged rate low high _ deep (below deep).shallow q (slow deep)))

        pub new_turned : (τ : Turn) → cell_after rules (turned_cell τ cell) (turned_faces τ F) k rate ≡ turned_cell τ (cell_after rules cell F k rate)
        new_turned EastWest = rw (depth_turned EastWest, east_columns, north_columns, speed_turned EastWest, reversed (raw_east rules cell F k) (λ deep. (below deep).slow_east))
        new_turned SouthNorth = rw (depth_turned SouthNorth, north_rows, east_rows, speed_turned SouthNorth, reversed (raw_north rules cell F k) (λ deep. (below deep).slow_north))
        new_turned RowsColumns = rw (depth_turned RowsColumns, speed_turned RowsColumns)
