-- One step: no cell gives more water than it has, and what a step, rain or soaking makes of a cell is ranged.
use Rattle.std.proofs.Common.{◌≡◌, ℕ, ◌+◌, ◌-◌, ◌*◌, ◌<◌, ◌≤◌, min, Bool, false, ltb, ℤ, pos, ◌*ℤ◌, neg_ℤ, nat_abs, refl, ⊎_elim, arith}
use Rattle.std.proofs.lemmas.Bool.{ltb-false, lt-ltb, le-ltb, cases_lt}
use Rattle.std.proofs.lemmas.Bool.Decides.{nat_tests}
use Rattle.book.specs.declared.cell.Cell.{Cell}
use Rattle.book.specs.declared.side.Hand.{Hand}
use Rattle.book.specs.declared.side.Hand.TheVariants.{West, East, South, North}
use Rattle.rules.specs.Flux.{LawfulFlux}
use Rattle.rules.specs.Friction.{Slowing, LawfulFriction}
use Rattle.book.specs.Ranges.{max_bed, max_depth, max_velocity, max_rate}
use Rattle.book.specs.Numbers.{film, thinned, velocity}
use Rattle.book.specs.Faces.{Face, own_depth, pace}
use Rattle.book.specs.Step.{Rules, water, gives, speed, past_brim, depth_after, raw_east, raw_north, brim_after, cell_after}
use Rattle.book.specs.Sheets.{Table, cell_at, face, span, leaves, leaving, too_slow, some_hand, stepped, arriving, new_cell}
use Rattle.book.specs.Calls.{soaked, rained}
use Rattle.book.proofs.Sound.{Ranged, Sound, FacingBoth}
use Rattle.rules.specs.Ints.{quot_neg}
use Rattle.book.proofs.Numbers.{film_wet, film_shallow, quarter_out, still_slow, flow_small, flow_slow, times_slow, more_slow, friction_speed_low}
use Rattle.book.proofs.Sums.{no_place, no_hand}
use Rattle.book.proofs.Grids.{grid_at}
use Rattle.book.proofs.Faces.{faces_sound, own_below}

-- ---- no overdraft

module _ (rules : Rules) (flux : LawfulFlux rules.water rules.push) where
  gives_quarter : (hand : Hand) (f : Face) (k : ℕ) → FacingBoth f → 4 * pace f ≤ k → 4 * gives rules k hand f ≤ own_depth hand f
  gives_quarter East f k g h = quarter_out (water rules f) k (pace f) f.left.depth (flux.out_bounded _ _ _ _ g.left g.right) h
  gives_quarter North f k g h = quarter_out (water rules f) k (pace f) f.left.depth (flux.out_bounded _ _ _ _ g.left g.right) h
  gives_quarter hand f k g h = rw (← quot_neg (water rules f) k) (quarter_out (neg_ℤ (water rules f)) k (pace f) f.right.depth (flux.in_bounded _ _ _ _ g.left g.right) h)

  module _ (t : Table) (sound : Sound t) (rate : ℕ) (paced : too_slow t rate ≡ false) (r c : ℕ) (p : r < t.rows) (q : c < t.columns) where
    leaves_quarter : (hand : Hand) → 4 * leaves rules t rate r c hand ≤ (cell_at t r c).depth
    leaves_quarter hand =
        let fast : 4 * pace (face t r c hand) ≤ span t rate =
        ltb-false (span t rate) (4 * pace (face t r c hand))
        (no_hand (λ side. ltb (span t rate) (4 * pace (face t r c side)))
        (no_place t (λ y x. some_hand (λ side. ltb (span t rate) (4 * pace (face t y x side)))) paced r c p q) hand) in
        omega (arith, own_below t r c hand, gives_quarter hand (face t r c hand) (span t rate) (faces_sound t sound r c p q hand) fast)

    pub not_overdrawn : leaving rules t rate r c ≤ (cell_at t r c).depth
    not_overdrawn = omega (arith, leaves_quarter West, leaves_quarter East, leaves_quarter South, leaves_quarter North)

-- then nothing is cut off from the new depth
pub stepped_exact : (rules : Rules) (t : Table) (rate r c : ℕ) → r < t.rows → c < t.columns → leaving rules t rate r c ≤ (cell_at t r c).depth →
    (cell_at (stepped rules t rate) r c).depth + leaving rules t rate r c ≡ (cell_at t r c).depth + arriving rules t rate r c
stepped_exact rules t rate r c p q h =
    rw (grid_at t.rows t.columns (new_cell rules t rate) r c p q) (omega arith)

-- ---- the brim

pub record BelowBrim (h : ℕ) (e n : ℤ) : Type 0 where
  pub shallow : h ≤ max_depth
  pub slow_east : nat_abs (velocity e h) ≤ max_velocity
  pub slow_north : nat_abs (velocity n h) ≤ max_velocity

pub below_brim : (h : ℕ) (e n : ℤ) → past_brim h e n ≡ false → film ≤ h → BelowBrim h e n
below_brim h e n b deep = record { shallow = grind (arith, nat_tests); slow_east = grind (arith, nat_tests); slow_north = grind (arith, nat_tests) }

-- friction is asked only what its laws speak of
pub slowing : (cell : Cell) → Ranged cell → (rate : ℕ) → 1 ≤ rate → rate ≤ max_rate → (h : ℕ) → film ≤ h → h ≤ max_depth → (q : ℤ) → nat_abs (velocity q h) ≤ max_velocity → Slowing q (speed cell) h rate
slowing cell ranged rate low high h deep shallow q slow = record {
  flow = omega (arith, flow_small q h (omega (arith, film_wet)) slow);
  speed = friction_speed_low (velocity cell.east cell.depth) (velocity cell.north cell.depth) ranged.slow_east ranged.slow_north;
  wet = omega (arith, film_wet);
  shallow = shallow;
  some_rate = low;
  rate = high;
}

-- ---- cells in range

pub still_ranged : (laid : Bool) (bed : ℤ) (h : ℕ) → nat_abs bed ≤ max_bed → h ≤ max_depth → Ranged (record { laid = laid; bed = bed; depth = h; east = pos 0; north = pos 0 })
still_ranged laid bed h a b = record { bed = a; depth = b; dry_east = λ _. refl; dry_north = λ _. refl; slow_east = still_slow h; slow_north = still_slow h }

thinned_ranged : (laid : Bool) (bed : ℤ) (h : ℕ) (e n : ℤ) → nat_abs bed ≤ max_bed → (film ≤ h → BelowBrim h e n) → Ranged (record { laid = laid; bed = bed; depth = h; east = thinned h e; north = thinned h n })
thinned_ranged laid bed h e n a g =
    ⊎_elim (λ (l : h < film). rw lt-ltb (still_ranged laid bed h a (omega (arith, film_shallow))))
    (λ (l : film ≤ h). rw le-ltb (record {
      bed = a;
      depth = (g l).shallow;
      dry_east = λ m. absurd (omega (arith, film_wet));
      dry_north = λ m. absurd (omega (arith, film_wet));
      slow_east = (g l).slow_east;
      slow_north = (g l).slow_north;
    }))
    (cases_lt h film)

module _ (rules : Rules) (friction : LawfulFriction rules.slowed) where
  slowed_slow : (q : ℤ) (u h d : ℕ) → Slowing q u h d → nat_abs (velocity q h) ≤ max_velocity → nat_abs (velocity (rules.slowed q u h d) h) ≤ max_velocity
  slowed_slow q u h d s v = flow_slow (rules.slowed q u h d) h s.wet (omega (arith, flow_small q h s.wet v, friction.no_larger q u h d s))

  pub new_ranged : (cell : Cell) (faces : Hand → Face) (k rate : ℕ) → Ranged cell → 1 ≤ rate → rate ≤ max_rate → brim_after rules cell faces k ≡ false → Ranged (cell_after rules cell faces k rate)
  new_ranged cell faces k rate ranged low high brim =
      let h : ℕ = depth_after rules cell faces k in
      let e : ℤ = raw_east rules cell faces k in
      let n : ℤ = raw_north rules cell faces k in
      thinned_ranged cell.laid cell.bed h (rules.slowed e (speed cell) h rate) (rules.slowed n (speed cell) h rate) ranged.bed
      (λ deep.
      let b = below_brim h e n brim deep in
      record {
        shallow = b.shallow;
        slow_east = slowed_slow e (speed cell) h rate (slowing cell ranged rate low high h deep b.shallow e b.slow_east) b.slow_east;
        slow_north = slowed_slow n (speed cell) h rate (slowing cell ranged rate low high h deep b.shallow n b.slow_north) b.slow_north;
      })

pub soaked_ranged : (r : ℕ) (k : Cell) → Ranged k → Ranged (soaked r k)
soaked_ranged r k g =
    let h : ℕ = k.depth - min k.depth r in
    thinned_ranged k.laid k.bed h (pos h *ℤ velocity k.east k.depth) (pos h *ℤ velocity k.north k.depth) g.bed
    (λ (l : film ≤ h). record {
      shallow = omega (arith, g.depth);
      slow_east = times_slow h (velocity k.east k.depth) (omega (arith, film_wet)) g.slow_east;
      slow_north = times_slow h (velocity k.north k.depth) (omega (arith, film_wet)) g.slow_north;
    })

pub rained_ranged : (r : ℕ) (k : Cell) → Ranged k → k.depth + r ≤ max_depth → Ranged (rained r k)
rained_ranged r k g b = record {
  bed = g.bed;
  depth = b;
  dry_east = λ l. g.dry_east (omega arith);
  dry_north = λ l. g.dry_north (omega arith);
  slow_east = more_slow k.east k.depth r g.dry_east g.slow_east;
  slow_north = more_slow k.north k.depth r g.dry_north g.slow_north;
}
