-- Nothing passes a wall, and nothing is counted at a side whose faces pass no water.
use Rattle.std.proofs.Common.{add-zero, ◌+◌, ◌≡◌, ℕ, ◌-◌, ◌<◌, ℤ, pos, neg_ℤ, None, sym, refl, ap, arith}
use Rattle.std.proofs.lemmas.Int.{ints}
use Rattle.std.proofs.lemmas.Bool.{le-ltb}
use Rattle.book.specs.declared.side.Hand.{Hand}
use Rattle.book.specs.declared.side.Hand.TheVariants.{West, East, North}
use Rattle.book.specs.declared.side.Side.TheVariants.{Wall}
use Rattle.book.specs.declared.account.Passed.{Passed}
use Rattle.rules.specs.Flux.{LawfulFlux}
use Rattle.rules.specs.Side.{Facing}
use Rattle.book.specs.Numbers.{positive, greater}
use Rattle.book.specs.Faces.{Column, Face, column, ghost, above, face_of}
use Rattle.book.specs.Step.{Rules, water, outward, gives, takes}
use Rattle.book.specs.Sheets.{Table, Place, cell_at, side_at, neighbour, face, span, border_length, border_place, leaves, arrives}
use Rattle.book.specs.Accounts.{passed_by}
use Rattle.book.proofs.Sound.{Sound, FacingBoth}
use Rattle.book.proofs.Numbers.{trunc_none, where_wet_neg}
use Rattle.book.proofs.Sums.{sum_none}
use Rattle.book.proofs.Neighbours.{border_row, border_column}
use Rattle.book.proofs.Faces.{faces_sound}

-- ---- faces that pass no water

module _ (rules : Rules) (k : ℕ) (f : Face) (none : water rules f ≡ pos 0) where
  no_outward : (hand : Hand) → outward rules k hand f ≡ pos 0
  no_outward West = rw (trunc_none (water rules f) k none)
  no_outward hand = rw (trunc_none (water rules f) k none)

  pub none_gives : (hand : Hand) → gives rules k hand f ≡ 0
  none_gives hand = ap positive (no_outward hand)

  pub none_takes : (hand : Hand) → takes rules k hand f ≡ 0
  none_takes hand = ap (λ z. positive (neg_ℤ z)) (no_outward hand)

pub none_passed : (rules : Rules) (t : Table) (rate : ℕ) (hand : Hand) →
    ((k : ℕ) → k < border_length t.rows t.columns hand → water rules (face t (border_place t.rows t.columns hand k).row (border_place t.rows t.columns hand k).column hand) ≡ pos 0) →
    (p : Passed) → passed_by rules t rate hand p ≡ p
none_passed rules t rate hand none p =
    let place : ℕ → Place = border_place t.rows t.columns hand in
    let into = sum_none (border_length t.rows t.columns hand) (λ k. arrives rules t rate (place k).row (place k).column hand) (λ k h. none_takes rules (span t rate) _ (none k h) hand) in
    let out = sum_none (border_length t.rows t.columns hand) (λ k. leaves rules t rate (place k).row (place k).column hand) (λ k h. none_gives rules (span t rate) _ (none k h) hand) in
    rw (into, out) (simp add-zero)

-- ---- walls

-- the ghost beyond a wall has the opposite velocity
thrown_back : (hand : Hand) (k : Column) → (above (greater k.bed k.bed) (ghost Wall hand k)).normal ≡ neg_ℤ (above (greater k.bed k.bed) k).normal
thrown_back hand k = where_wet_neg (above (greater k.bed k.bed) k).depth k.normal

-- a cell along a side has no neighbour there
border_none : (t : Table) (hand : Hand) (k : ℕ) → neighbour t (border_place t.rows t.columns hand k).row (border_place t.rows t.columns hand k).column hand ≡ None
border_none t East k = rw (le-ltb (t.columns - 1 + 1) t.columns (omega arith))
border_none t North k = rw (le-ltb (t.rows - 1 + 1) t.rows (omega arith))
border_none t hand k = refl

module _ (rules : Rules) (flux : LawfulFlux rules.water rules.push) where
  -- equal depths with opposite velocities are their own exchange, so their water is its own opposite
  opposite_water : (d : ℕ) (u v : ℤ) → Facing d u → Facing d v → u ≡ neg_ℤ v → rules.water d u d v ≡ pos 0
  opposite_water d u v f g e =
      let back : neg_ℤ u ≡ v = omega (arith, ints) in
      let same = rw (back, sym e) at (flux.exchanged_water d u d v f g) in
      omega (arith, ints)

  wall_water : (hand : Hand) (k : Column) → FacingBoth (face_of hand k (ghost Wall hand k)) → water rules (face_of hand k (ghost Wall hand k)) ≡ pos 0
  wall_water West k f = opposite_water _ _ _ f.left f.right (omega (arith, ints, thrown_back West k))
  wall_water hand k f = opposite_water _ _ _ f.left f.right (omega (arith, ints, thrown_back hand k))

  pub wall_holds : (t : Table) → Sound t → (rate : ℕ) (hand : Hand) → side_at t hand ≡ Wall → (p : Passed) → passed_by rules t rate hand p ≡ p
  wall_holds t sound rate hand wall =
      none_passed rules t rate hand (λ k h.
      let own : Column = column hand (cell_at t (border_place t.rows t.columns hand k).row (border_place t.rows t.columns hand k).column) in
      let f = faces_sound t sound _ _ (border_row t sound hand k h) (border_column t sound hand k h) hand in
      rw (border_none t hand k, wall) (wall_water hand own (rw (border_none t hand k, wall) at f)))
