-- Still water stays as it is.
use Rattle.std.proofs.Common.{◌≡◌, ℕ, ◌*◌, ◌<◌, ◌≤◌, true, false, ltb, ◌⊎◌, List, [], ◌∷◌, ℤ, pos, ◌-ℤ◌, neg_ℤ, Some, None, Option, sym, refl, ap, ◌∙◌, subst, inl, inr, arith}
use Rattle.std.proofs.lemmas.Int.{ints}
use Rattle.std.proofs.lemmas.Bool.{ltb-false, cond_both}
use Rattle.book.specs.declared.cell.Cell.{Cell}
use Rattle.book.specs.declared.side.Hand.{Hand}
use Rattle.book.specs.declared.side.Hand.TheVariants.{West, East, South, North}
use Rattle.book.specs.declared.side.Side.{Side}
use Rattle.book.specs.declared.side.Side.TheVariants.{Wall, Fed}
use Rattle.book.specs.declared.account.Passed.{Passed}
use Rattle.book.specs.declared.account.Account.{Account}
use Rattle.book.specs.declared.call.Call.{Call}
use Rattle.book.specs.declared.call.Call.TheVariants.{Step}
use Rattle.rules.specs.Flux.{LawfulFlux}
use Rattle.rules.specs.Friction.{LawfulFriction}
use Rattle.rules.specs.Side.{discharge, momentum}
use Rattle.book.specs.Ranges.{max_rate}
use Rattle.book.specs.Numbers.{film, thinned, share}
use Rattle.book.specs.Faces.{Column, Face, column, ghost, meet, face_of, own_depth}
use Rattle.book.specs.Step.{Rules, speed, water, push, carried, pressed, east_thrust, north_thrust, depth_after, raw_east, raw_north, cell_after}
use Rattle.book.specs.Sheets.{Table, Place, cell_at, side_at, span, neighbour, seen, beyond, face, new_cell, grid, with_cells}
use Rattle.book.specs.Accounts.{passed_by, account_after_step}
use Rattle.book.specs.Calls.{Book, serving, faults, accepted, answer, after, book_after}
use Rattle.book.proofs.Sound.{Ranged, Sound, FacingBoth}
use Rattle.book.specs.Laws.{Still, Quiet, step_or_question, fed, Refuses}
use Rattle.book.proofs.Numbers.{share_zero, velocity_zero, where_wet_zero, still_slow, carried_none, inside}
use Rattle.book.proofs.Grids.{grid_from}
use Rattle.book.proofs.Neighbours.{Stands, stands, border_row, border_column}
use Rattle.book.proofs.Faces.{faces_sound}
use Rattle.book.proofs.Judged.{NoneThere, answer_book, refusal_leaves}
use Rattle.book.proofs.Steps.{slowing}
use Rattle.book.proofs.Soundness.{book_sound, sound_serving}
use Rattle.book.proofs.Walls.{none_gives, none_takes, none_passed}

-- ---- numbers

-- water at rest carries nothing, and has only its weight
no_discharge : (d : ℕ) → discharge d (pos 0) ≡ pos 0
unfolding discharge
no_discharge d = omega (arith, ints)

weight_only : (d : ℕ) → momentum d (pos 0) ≡ pos (981 * (d * d))
unfolding momentum
weight_only d = omega (arith, ints)

no_change : (q z : ℤ) (k : ℕ) → q ≡ pos 0 → z ≡ pos 0 → q -ℤ share z k ≡ pos 0
no_change q z k e f = rw (e, f, share_zero) refl

-- ---- a step of one cell with still faces

record Calm (f : Face) : Type 0 where
  left_normal : f.left.normal ≡ pos 0
  right_normal : f.right.normal ≡ pos 0

record Level (f : Face) : Type 0 where
  calm : Calm f
  even : f.left.depth ≡ f.right.depth
  facing : FacingBoth f

module _ (rules : Rules) (flux : LawfulFlux rules.water rules.push) where
  no_water : (f : Face) → Level f → water rules f ≡ pos 0
  no_water f l = cc (flux.even_water f.left.depth f.left.normal l.facing.left, no_discharge f.left.depth)

  own_left : (hand : Hand) (f : Face) → Level f → own_depth hand f ≡ f.left.depth
  own_left West f l = cc
  own_left hand f l = cc

  level_pressed : (h : ℕ) (hand : Hand) (f : Face) → Level f → pressed rules h hand f ≡ pos (981 * (h * h))
  level_pressed h hand f l =
      let e : push rules f ≡ pos (981 * (f.left.depth * f.left.depth)) = cc (flux.even_push f.left.depth f.left.normal l.facing.left, weight_only f.left.depth) in
      rw (own_left hand f l) (omega (arith, ints))

  none_carried : (f : Face) → Level f → carried rules f ≡ pos 0
  none_carried f l = carried_none (water rules f) f.left.along f.right.along (no_water f l)

  module _ (friction : LawfulFriction rules.slowed) (cell : Cell) (faces : Hand → Face) (level : (hand : Hand) → Level (faces hand)) (still_east : cell.east ≡ pos 0) (still_north : cell.north ≡ pos 0) (k : ℕ) where
    same_depth : depth_after rules cell faces k ≡ cell.depth
    same_depth =
        let g = λ (hand : Hand). none_gives rules k (faces hand) (no_water (faces hand) (level hand)) hand in
        let t = λ (hand : Hand). none_takes rules k (faces hand) (no_water (faces hand) (level hand)) hand in
        omega (arith, g West, g East, g South, g North, t West, t East, t South, t North)

    no_raw_east : raw_east rules cell faces k ≡ pos 0
    no_raw_east =
        no_change cell.east (east_thrust rules cell faces) (20 * k) still_east
        (omega (arith, ints, level_pressed cell.depth East (faces East) (level East), level_pressed cell.depth West (faces West) (level West), none_carried (faces North) (level North), none_carried (faces South) (level South)))

    no_raw_north : raw_north rules cell faces k ≡ pos 0
    no_raw_north =
        no_change cell.north (north_thrust rules cell faces) (20 * k) still_north
        (omega (arith, ints, level_pressed cell.depth North (faces North) (level North), level_pressed cell.depth South (faces South) (level South), none_carried (faces East) (level East), none_carried (faces West) (level West)))

    module _ (ranged : Ranged cell) (rate : ℕ) (low : 1 ≤ rate) (high : rate ≤ max_rate) where
      no_flow : (h : ℕ) (q : ℤ) → h ≡ cell.depth → q ≡ pos 0 → thinned h (rules.slowed q (speed cell) h rate) ≡ pos 0
      no_flow h q e f =
          rw f
          (cond_both (ltb h film) (pos 0) (rules.slowed (pos 0) (speed cell) h rate) (λ z. z ≡ pos 0) (λ _. refl)
          (λ deep. omega (arith, ints, friction.no_larger (pos 0) (speed cell) h rate (slowing cell ranged rate low high h (ltb-false h film deep) (omega (arith, ranged.depth)) (pos 0) (still_slow h)))))

      same_cell : cell_after rules cell faces k rate ≡ cell
      same_cell =
          let east = no_flow (depth_after rules cell faces k) (raw_east rules cell faces k) same_depth no_raw_east ∙ sym still_east in
          let north = no_flow (depth_after rules cell faces k) (raw_north rules cell faces k) same_depth no_raw_north ∙ sym still_north in
          λ i. record { laid = cell.laid; bed = cell.bed; depth = same_depth i; east = east i; north = north i }

-- ---- the faces of a still table

ghost_still : (s : Side) (hand : Hand) (k : Column) → fed s ≡ false → k.normal ≡ pos 0 → (ghost s hand k).normal ≡ pos 0
ghost_still Wall hand k u n = ap neg_ℤ n
ghost_still (Fed a b) hand k u n = cc
ghost_still s hand k u n = n

meet_still : (l r : Column) → l.normal ≡ pos 0 → r.normal ≡ pos 0 → Calm (meet l r)
meet_still l r p q = record { left_normal = rw p (where_wet_zero _); right_normal = rw q (where_wet_zero _) }

face_still : (hand : Hand) (own far : Column) → own.normal ≡ pos 0 → far.normal ≡ pos 0 → Calm (face_of hand own far)
face_still West own far p q = meet_still far own q p
face_still South own far p q = meet_still far own q p
face_still hand own far p q = meet_still own far p q

module _ (t : Table) (still : Still t) (sound : Sound t) where
  own_still : (r c : ℕ) → r < t.rows → c < t.columns → (hand : Hand) → (column hand (cell_at t r c)).normal ≡ pos 0
  own_still r c h k West = cc (still.east_still r c (h, k), velocity_zero (cell_at t r c).depth)
  own_still r c h k East = cc (still.east_still r c (h, k), velocity_zero (cell_at t r c).depth)
  own_still r c h k hand = cc (still.north_still r c (h, k), velocity_zero (cell_at t r c).depth)

  seen_still : (r c : ℕ) → r < t.rows → c < t.columns → (hand : Hand) (o : Option Place) → Stands t r c hand o → (seen t r c hand o).normal ≡ pos 0
  seen_still r c h k hand (Some p) s = own_still p.row p.column s.0 s.1 hand
  seen_still r c h k hand None s = ghost_still (side_at t hand) hand (column hand (cell_at t r c)) (still.unfed hand) (own_still r c h k hand)

  level_face : (r c : ℕ) → r < t.rows → c < t.columns → (hand : Hand) → Level (face t r c hand)
  level_face r c h k hand = record {
    calm = face_still hand (column hand (cell_at t r c)) (beyond t r c hand) (own_still r c h k hand) (seen_still r c h k hand (neighbour t r c hand) (stands t sound r c h k hand));
    even = still.level r c (h, k) hand;
    facing = faces_sound t sound r c h k hand;
  }

-- ---- a step of still water

module _ (rules : Rules) (flux : LawfulFlux rules.water rules.push) (friction : LawfulFriction rules.slowed) where
  module _ (t : Table) (still : Still t) (sound : Sound t) (rate : ℕ) where
    same_cells : 1 ≤ rate → rate ≤ max_rate → grid t.rows t.columns (new_cell rules t rate) ≡ t.cells
    same_cells low high =
        sym (grid_from t.rows t.columns t.cells (new_cell rules t rate) sound.sized
        (λ r c h k. sym (same_cell rules flux friction (cell_at t r c) (face t r c) (level_face t still sound r c h k) (still.east_still r c (h, k)) (still.north_still r c (h, k)) (span t rate) (sound.ranged r c h k) rate low high)))

    same_passed : (hand : Hand) (p : Passed) → passed_by rules t rate hand p ≡ p
    same_passed hand = none_passed rules t rate hand (λ k h. no_water rules flux _ (level_face t still sound _ _ (border_row t sound hand k h) (border_column t sound hand k h) hand))

    same_account : (a : Account) → account_after_step rules t rate a ≡ a
    same_account a =
        λ i. record { poured = a.poured; rain = a.rain; soak = a.soak; west = same_passed West a.west i; east = same_passed East a.east i; south = same_passed South a.south i; north = same_passed North a.north i }

  module _ (b : Book) (serves : b.stage ≡ serving) (still : Still b.table) (sound : Sound b.table) where
    accepted_leaves : (x : Call) → step_or_question x ≡ true → NoneThere (faults rules b x) → (accepted rules b x).book ≡ b
    accepted_leaves (Step rate) e n =
        let w = inside 1 max_rate rate n.0 in
        let cells = same_cells b.table still sound rate w.0 w.1 in
        let account = same_account b.table still sound rate b.account in
        λ i. record { stage = sym serves i; table = with_cells b.table (cells i); account = account i }
    accepted_leaves x e n = cc

    quiet_leaves : (x : Call) → (step_or_question x ≡ true) ⊎ Refuses rules b x → (answer rules b x).book ≡ b
    quiet_leaves x (inl e) = answer_book rules (λ z. z ≡ b) b x refl (λ _ n. accepted_leaves x e n)
    quiet_leaves x (inr e) = refusal_leaves rules b x e

    after_quiet : (quiet : List Call) → Quiet rules b quiet → after rules b quiet ≡ b
    after_quiet [] q = refl
    after_quiet (x ∷ xs) q =
        let e : (answer rules b x).book ≡ b = quiet_leaves x q.0 in
        ap (λ d. after rules d xs) e ∙ after_quiet xs (subst (λ d. Quiet rules d xs) e q.1)

  pub still_stays : (calls quiet : List Call) → (book_after rules calls).stage ≡ serving → Still (book_after rules calls).table → Quiet rules (book_after rules calls) quiet → after rules (book_after rules calls) quiet ≡ book_after rules calls
  still_stays calls quiet serves still q = after_quiet (book_after rules calls) serves still (sound_serving (book_after rules calls) serves (book_sound rules friction calls)) quiet q
