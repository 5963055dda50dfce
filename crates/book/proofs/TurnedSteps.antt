-- One step: the turned sheet steps to the stepped sheet, turned, and its account goes along.
use Rattle.std.proofs.Common.{◌≡◌, ℕ, ◌+◌, ◌*◌, ◌<◌, ◌≤◌, false, ltb, sym, ap, ◌∙◌, ap₂}
use mathlib.Core.Path.{fun_ext}
use Rattle.book.specs.declared.side.Hand.{Hand}
use Rattle.book.specs.declared.account.Passed.{Passed}
use Rattle.book.specs.declared.account.Account.{Account}
use Rattle.rules.specs.Flux.{LawfulFlux}
use Rattle.rules.specs.Friction.{LawfulFriction}
use Rattle.book.specs.declared.turn.Turn.{Turn}
use Rattle.book.specs.declared.turn.Turn.TheVariants.{EastWest, SouthNorth, RowsColumns}
use Rattle.book.specs.Ranges.{max_rate}
use Rattle.book.specs.Faces.{pace}
use Rattle.book.specs.Step.{Rules, brim_after, cell_after}
use Rattle.book.specs.Sheets.{Table, span, face, leaves, arrives, new_cell, over_brim, grid, sum_below, some_hand, too_slow, brim_passed}
use Rattle.book.specs.Accounts.{passed_by, account_after_step}
use Rattle.book.specs.Calls.{slowest_rate, least_rate}
use Rattle.book.specs.Turns.{turned_hand, turned_cell, turned_table, turned_account}
use Rattle.book.proofs.Sound.{Sound, FacingBoth}
use Rattle.book.proofs.Sums.{sum_same, sum_mirrored, some_turned, no_place}
use Rattle.book.proofs.Grids.{grid_at, length_grid}
use Rattle.book.proofs.Neighbours.{rows_some, columns_some}
use Rattle.book.proofs.Faces.{faces_sound}
use Rattle.book.proofs.TurnedFaces.{high, wide, came, came_cell, came_row, came_column, cell_turned, face_turned}
use Rattle.book.proofs.TurnedCells.{turned_faces, pace_turned, gives_turned, takes_turned, brim_turned, new_turned}
use Rattle.book.proofs.TurnedTables.{turned_from, side_turned_by, some_hand_turned, turned_list}

module _ (τ : Turn) (t : Table) where
  pub too_slow_turned : (rate : ℕ) → too_slow (turned_table τ t) rate ≡ too_slow t rate
  too_slow_turned rate =
      some_turned τ t.rows t.columns _ (λ r c. some_hand (λ hand. ltb (span t rate) (4 * pace (face t r c hand))))
      (λ r c h k.
      some_hand_turned τ (λ hand. ltb (span t rate) (4 * pace (face (turned_table τ t) r c hand))) (λ hand. ltb (span t rate) (4 * pace (face t (came τ t r c).row (came τ t r c).column hand)))
      (λ hand. rw (face_turned τ t r c h k hand, pace_turned)))

  pub slowest_turned : slowest_rate (turned_table τ t) ≡ slowest_rate t
  slowest_turned = ap (λ slow. least_rate slow 1 max_rate) (fun_ext too_slow_turned)

module _ (rules : Rules) (flux : LawfulFlux rules.water rules.push) (τ : Turn) (t : Table) (sound : Sound t) where
  module _ (r c : ℕ) (h : r < high τ t) (k : c < wide τ t) where
    facing : (hand : Hand) → FacingBoth (face t (came τ t r c).row (came τ t r c).column hand)
    facing hand = faces_sound t sound (came τ t r c).row (came τ t r c).column (came_row τ t r c h k) (came_column τ t r c h k) hand

    all_faces : face (turned_table τ t) r c ≡ turned_faces τ (face t (came τ t r c).row (came τ t r c).column)
    all_faces = fun_ext (face_turned τ t r c h k)

    brim_here : (rate : ℕ) → over_brim rules (turned_table τ t) rate r c ≡ over_brim rules t rate (came τ t r c).row (came τ t r c).column
    brim_here rate =
        ap₂ (λ x F. brim_after rules x F (span t rate)) (cell_turned τ t r c h k) all_faces
        ∙ brim_turned rules flux (came_cell τ t r c) (face t (came τ t r c).row (came τ t r c).column) facing (span t rate) τ

    new_here : LawfulFriction rules.slowed → (rate : ℕ) → 1 ≤ rate → rate ≤ max_rate → over_brim rules t rate (came τ t r c).row (came τ t r c).column ≡ false →
        new_cell rules (turned_table τ t) rate r c ≡ turned_cell τ (new_cell rules t rate (came τ t r c).row (came τ t r c).column)
    new_here friction rate low top brim =
        ap₂ (λ x F. cell_after rules x F (span t rate) rate) (cell_turned τ t r c h k) all_faces
        ∙ new_turned rules flux (came_cell τ t r c) (face t (came τ t r c).row (came τ t r c).column) facing (span t rate) friction rate
        (sound.ranged (came τ t r c).row (came τ t r c).column (came_row τ t r c h k) (came_column τ t r c h k)) low top brim τ

    leaves_here : (rate : ℕ) (hand : Hand) → leaves rules (turned_table τ t) rate r c hand ≡ leaves rules t rate (came τ t r c).row (came τ t r c).column (turned_hand τ hand)
    leaves_here rate hand = rw (face_turned τ t r c h k hand) (gives_turned rules flux τ hand (span t rate) _ (facing (turned_hand τ hand)))

    arrives_here : (rate : ℕ) (hand : Hand) → arrives rules (turned_table τ t) rate r c hand ≡ arrives rules t rate (came τ t r c).row (came τ t r c).column (turned_hand τ hand)
    arrives_here rate hand = rw (face_turned τ t r c h k hand) (takes_turned rules flux τ hand (span t rate) _ (facing (turned_hand τ hand)))

  pub brim_passed_turned : (rate : ℕ) → brim_passed rules (turned_table τ t) rate ≡ brim_passed rules t rate
  brim_passed_turned rate = some_turned τ t.rows t.columns (over_brim rules (turned_table τ t) rate) (over_brim rules t rate) (λ r c h k. brim_here r c h k rate)

  pub step_cells : LawfulFriction rules.slowed → (rate : ℕ) → 1 ≤ rate → rate ≤ max_rate → brim_passed rules t rate ≡ false →
      grid (high τ t) (wide τ t) (new_cell rules (turned_table τ t) rate) ≡ turned_list τ t (grid t.rows t.columns (new_cell rules t rate))
  step_cells friction rate low top brim =
      turned_from τ t _ _ (length_grid (high τ t) (wide τ t) (new_cell rules (turned_table τ t) rate)) (λ r c h k.
      grid_at (high τ t) (wide τ t) (new_cell rules (turned_table τ t) rate) r c h k
      ∙ new_here r c h k friction rate low top (no_place t (over_brim rules t rate) brim (came τ t r c).row (came τ t r c).column (came_row τ t r c h k) (came_column τ t r c h k))
      ∙ ap (turned_cell τ) (sym (grid_at t.rows t.columns (new_cell rules t rate) (came τ t r c).row (came τ t r c).column (came_row τ t r c h k) (came_column τ t r c h k))))

  passed_turned : (rate : ℕ) (hand : Hand) (p : Passed) → passed_by rules (turned_table τ t) rate hand p ≡ passed_by rules t rate (turned_hand τ hand) p
  passed_turned rate hand p =
      ap₂ (λ x y. record { into = p.into + x; out = p.out + y })
      (side_turned_by sum_below sum_same sum_mirrored t (rows_some t sound) (columns_some t sound) τ hand _ (λ r c. arrives rules t rate r c (turned_hand τ hand)) (λ r c h k. arrives_here r c h k rate hand))
      (side_turned_by sum_below sum_same sum_mirrored t (rows_some t sound) (columns_some t sound) τ hand _ (λ r c. leaves rules t rate r c (turned_hand τ hand)) (λ r c h k. leaves_here r c h k rate hand))

pub step_account : (rules : Rules) → LawfulFlux rules.water rules.push → (τ : Turn) (t : Table) → Sound t → (rate : ℕ) (a : Account) →
    account_after_step rules (turned_table τ t) rate (turned_account τ a) ≡ turned_account τ (account_after_step rules t rate a)
step_account rules flux EastWest t sound rate a = simp (passed_turned rules flux EastWest t sound rate)
step_account rules flux SouthNorth t sound rate a = simp (passed_turned rules flux SouthNorth t sound rate)
step_account rules flux RowsColumns t sound rate a = simp (passed_turned rules flux RowsColumns t sound rate)
