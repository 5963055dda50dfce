-- One step of one cell with its faces to the four hands, by a flux rule and a friction rule. K is the width of a cell times the rate.
use Rattle.std.specs.Prelude.{ℕ, ◌+◌, ◌-◌, ◌*◌, Bool, cond, not, ◌&&◌, ◌||◌, ℤ, pos, ◌+ℤ◌, ◌-ℤ◌, ◌*ℤ◌, neg_ℤ, int_lt, nat_lt, unsigned_abs}
use Rattle.book.specs.declared.cell.Cell.{Cell}
use Rattle.book.specs.declared.side.Hand.{Hand}
use Rattle.book.specs.declared.side.Hand.TheVariants.{West, East, South, North}
use Rattle.book.specs.Ranges.{max_depth, max_velocity}
use Rattle.book.specs.Numbers.{trunc, share, film, thinned, positive, velocity, friction_speed}
use Rattle.book.specs.Faces.{Face, own_depth}

-- the rules of a basin, by what they mean, and the number of the flux
pub record Rules : Type 0 where
  pub number : ℕ
  pub water : ℕ → ℤ → ℕ → ℤ → ℤ
  pub push : ℕ → ℤ → ℕ → ℤ → ℤ
  pub slowed : ℤ → ℕ → ℕ → ℕ → ℤ

-- the rules of these four
abbrev pub rules_of : ℕ → (ℕ → ℤ → ℕ → ℤ → ℤ) → (ℕ → ℤ → ℕ → ℤ → ℤ) → (ℤ → ℕ → ℕ → ℕ → ℤ) → Rules
rules_of number water push slowed = record { number = number; water = water; push = push; slowed = slowed }

-- a sum over the four hands
abbrev pub all_hands : (Hand → ℕ) → ℕ
all_hands f = f West + f East + f South + f North

-- the push ahead less the push behind, with what is carried over the two other faces: the northern or eastern less the southern or western
abbrev pub thrust : ℤ → ℤ → ℤ → ℤ → ℤ
thrust ahead behind high low = ((ahead -ℤ behind) +ℤ high) -ℤ low

-- U: the speed of a cell that friction is given
abbrev pub speed : Cell → ℕ
speed k = friction_speed (velocity k.east k.depth) (velocity k.north k.depth)

-- more water or more speed than a cell may have; thin water has neither
abbrev pub past_brim : ℕ → ℤ → ℤ → Bool
past_brim h e n = not (nat_lt h film) && (nat_lt max_depth h || nat_lt max_velocity (unsigned_abs (velocity e h)) || nat_lt max_velocity (unsigned_abs (velocity n h)))

module _ (rules : Rules) where
  -- ---- what passes a face

  -- W and P
  abbrev pub water : Face → ℤ
  water f = rules.water f.left.depth f.left.normal f.right.depth f.right.normal

  abbrev pub push : Face → ℤ
  push f = rules.push f.left.depth f.left.normal f.right.depth f.right.normal

  -- T: what the water carries over of the velocity along the face, which is that of the side it leaves
  abbrev pub carried : Face → ℤ
  carried f =
      let w : ℤ = water f in
      (pos 20 *ℤ w) *ℤ cond (int_lt (pos 0) w) f.left.along f.right.along

  -- the water that a cell loses in one step over its face to the given hand; where it is negative, the cell gains
  abbrev pub outward : ℕ → Hand → Face → ℤ
  outward K West f = neg_ℤ (trunc (water f) K)
  outward K East f = trunc (water f) K
  outward K South f = neg_ℤ (trunc (water f) K)
  outward K North f = trunc (water f) K

  -- what it gives there, and what it takes
  abbrev pub gives : ℕ → Hand → Face → ℕ
  gives K hand f = positive (outward K hand f)

  abbrev pub takes : ℕ → Hand → Face → ℕ
  takes K hand f = positive (neg_ℤ (outward K hand f))

  -- P + 981·(h² − d²): the push at a face of a cell of depth h, with the weight of its water that the bed holds back there
  abbrev pub pressed : ℕ → Hand → Face → ℤ
  pressed h hand f = push f +ℤ (pos 981 *ℤ (pos (h * h) -ℤ pos (own_depth hand f * own_depth hand f)))

  module _ (cell : Cell) (faces : Hand → Face) where
    -- N for the flow east, and for the flow north
    abbrev pub east_thrust : ℤ
    east_thrust = thrust (pressed cell.depth East (faces East)) (pressed cell.depth West (faces West)) (carried (faces North)) (carried (faces South))

    abbrev pub north_thrust : ℤ
    north_thrust = thrust (pressed cell.depth North (faces North)) (pressed cell.depth South (faces South)) (carried (faces East)) (carried (faces West))

    module _ (K : ℕ) where
      -- ---- what the step makes of the cell

      -- h': the cell never gives more than it has (`never_overdrawn`, Laws.antt), so that nothing is cut off at 0 here
      abbrev pub depth_after : ℕ
      depth_after = (cell.depth + all_hands (λ hand. takes K hand (faces hand))) - all_hands (λ hand. gives K hand (faces hand))

      -- the flows before friction
      abbrev pub raw_east : ℤ
      raw_east = cell.east -ℤ share east_thrust (20 * K)

      abbrev pub raw_north : ℤ
      raw_north = cell.north -ℤ share north_thrust (20 * K)

      -- the brim is passed
      abbrev pub brim_after : Bool
      brim_after = past_brim depth_after raw_east raw_north

      -- the cell after a step at this rate, with friction, and without flow where the water is thin
      abbrev pub cell_after : ℕ → Cell
      cell_after rate =
          record {
            laid = cell.laid;
            bed = cell.bed;
            depth = depth_after;
            east = thinned depth_after (rules.slowed raw_east (speed cell) depth_after rate);
            north = thinned depth_after (rules.slowed raw_north (speed cell) depth_after rate);
          }
