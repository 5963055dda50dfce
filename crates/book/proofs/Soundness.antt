-- Every list of calls leaves a sound table; no step overdraws a cell.
use Rattle.std.proofs.Common.{◌≡◌, ℕ, zero, suc, ◌+◌, ◌*◌, ◌<◌, ◌≤◌, true, false, ltb, List, map, length, get_or, set, ℤ, pos, negsuc, nat_abs, refl, ap, ◌∙◌, subst, ⊎_elim, zero-le, arith}
use Rattle.std.proofs.lemmas.Grind.{get_or-set_at}
use Rattle.std.proofs.lemmas.List.{get_or-set_other, get_or-replicate, length-set, length-map, length-replicate}
use Rattle.std.proofs.lemmas.Bool.{ltb-false, cases_eq, or_parts}
use Rattle.book.specs.declared.cell.Cell.{Cell}
use Rattle.book.specs.declared.side.Hand.{Hand}
use Rattle.book.specs.declared.side.Hand.TheVariants.{West}
use Rattle.book.specs.declared.side.Side.{Side}
use Rattle.book.specs.declared.side.Side.TheVariants.{Wall, Open, Held, Fed}
use Rattle.book.specs.declared.call.Call.{Call}
use Rattle.book.specs.declared.call.Call.TheVariants.{Prepare, Lay, Open as Opening, Step, Rain, Soak, ChangeSide, Close}
use Rattle.book.specs.declared.reply.Reply.TheVariants.{Done}
use Rattle.rules.specs.Flux.{LawfulFlux}
use Rattle.rules.specs.Friction.{LawfulFriction}
use Rattle.book.specs.Ranges.{outside, max_depth, max_velocity, max_bed, max_rate, rate_amiss, size_amiss}
use Rattle.book.specs.Step.{Rules}
use Rattle.book.specs.Sheets.{Table, cell_at, no_cell, side_at, side_number, span, face, border_length, border_cell, leaving, new_cell, over_brim, grid, with_cells, with_sides, four_walls, blank, stepped, arriving}
use Rattle.book.specs.Calls.{Book, Stage, start, preparing, serving, empty_book, fresh, held_over, hand_of, side_of, side_amiss, soaked, rained, at_rest, stage_of, faults, accepted, answer, book_after}
use Rattle.book.proofs.Sound.{Ranged, Sound, GhostKept, SoundAt, SoundBook}
use Rattle.book.specs.Laws.{OnSheet}
use Rattle.book.proofs.Numbers.{inside}
use Rattle.std.proofs.lemmas.Int.{ints}
use Rattle.std.proofs.lemmas.Bool.Decides.{nat_tests}
use Rattle.book.proofs.Sums.{none_below, no_place}
use Rattle.book.proofs.Grids.{grid_at, length_grid, map_at, place_below}
use Rattle.book.proofs.Neighbours.{hand_there, number_below, border_row, border_column}
use Rattle.book.proofs.Judged.{NoneThere, answer_book, after_book, answer_done}
use Rattle.book.proofs.Steps.{still_ranged, soaked_ranged, rained_ranged, new_ranged, not_overdrawn, stepped_exact}

-- ---- cells changed, beds kept

ghost_bed : (s : Side) (k l : Cell) → k.bed ≡ l.bed → GhostKept s l → GhostKept s k
ghost_bed (Held a) k l e h = rw e h
ghost_bed s k l e h = h

cells_sound : (t : Table) → Sound t → (cells : List Cell) → length cells ≡ t.rows * t.columns →
    ((r c : ℕ) → r < t.rows → c < t.columns → Ranged (cell_at (with_cells t cells) r c)) →
    ((r c : ℕ) → r < t.rows → c < t.columns → (cell_at (with_cells t cells) r c).bed ≡ (cell_at t r c).bed) → Sound (with_cells t cells)
cells_sound t sound cells sized ranged beds = record {
  size = sound.size;
  sized = sized;
  four = sound.four;
  ranged = ranged;
  ghosts = λ hand k h.
      ghost_bed (side_at t hand) _ _ (beds _ _ (border_row t sound hand k h) (border_column t sound hand k h)) (sound.ghosts hand k h);
}

-- every cell changed alike
map_sound : (t : Table) → Sound t → (f : Cell → Cell) → ((k : Cell) → (f k).bed ≡ k.bed) →
    ((r c : ℕ) → r < t.rows → c < t.columns → Ranged (f (cell_at t r c))) → Sound (with_cells t (map f t.cells))
map_sound t sound f bed ranged =
    cells_sound t sound (map f t.cells) (length-map t.cells f ∙ sound.sized)
    (λ r c p q. rw (map_at t.rows t.columns t.cells f r c sound.sized p q) (ranged r c p q))
    (λ r c p q. rw (map_at t.rows t.columns t.cells f r c sound.sized p q) (bed (cell_at t r c)))

-- ---- sides changed

-- walls hold any cell
walled : (sides : List Side) → sides ≡ four_walls → (hand : Hand) (k : Cell) → GhostKept (get_or sides (side_number hand) Wall) k
walled sides e West k = rw e tt
walled sides e hand k = rw e tt

-- a side that a call may set
abbrev Allowed : Side → Type 0
Allowed Wall = Unit {0}
Allowed Open = Unit {0}
Allowed (Held a) = Unit {0}
Allowed (Fed a b) = (1 ≤ a) × (a ≤ max_depth) × (b ≤ max_velocity)

side_allowed : (kind : ℕ) (a : ℤ) (b : ℕ) → side_amiss kind a b ≡ false → Allowed (side_of kind a b)
side_allowed (suc (suc (suc zero))) (pos a) b e =
    let o = or_parts (outside 1 max_depth a) (outside 1 max_velocity b) e in
    let d = inside 1 max_depth a o.0 in
    (d.0, d.1, (inside 1 max_velocity b o.1).1)
side_allowed (suc (suc (suc zero))) (negsuc a) b e = cc
side_allowed (suc (suc (suc (suc n)))) a b e = cc
side_allowed kind a b e = tt

module _ (t : Table) (sound : Sound t) (hand : Hand) (s : Side) (allowed : Allowed s) (over : held_over t hand s ≡ false) where
  -- the ghosts beyond the side that is set
  changed_ghosts : (s : Side) → Allowed s → (hand : Hand) → held_over t hand s ≡ false → (k : ℕ) → k < border_length t.rows t.columns hand →
      GhostKept s (border_cell t hand k)
  changed_ghosts (Held a) _ hand e k h = ltb-false max_depth _ (none_below (border_length t.rows t.columns hand) _ e k h)
  changed_ghosts s al hand e k h = al

  set_ghosts : (other : Hand) (k : ℕ) → k < border_length t.rows t.columns other →
      GhostKept (get_or (set t.sides (side_number hand) s) (side_number other) Wall) (border_cell t other k)
  set_ghosts other k h =
      ⊎_elim
      (λ (n : side_number other ≡ side_number hand).
      let is : hand ≡ other = cc (hand_there hand, hand_there other) in
      rw (get_or-set_at t.sides (side_number hand) (side_number other) s Wall n (omega (arith, number_below hand, sound.four))) (changed_ghosts s allowed other (subst (λ x. held_over t x s ≡ false) is over) k h))
      (λ n. rw (get_or-set_other t.sides (side_number hand) (side_number other) s Wall n) (sound.ghosts other k h))
      (cases_eq (side_number other) (side_number hand))

  change_sound : Sound (with_sides t (set t.sides (side_number hand) s))
  change_sound = record { size = sound.size; sized = sound.sized; four = length-set t.sides (side_number hand) s ∙ sound.four; ranged = sound.ranged; ghosts = set_ghosts }

-- ---- preparing

blank_sound : (rows columns width : ℕ) → size_amiss rows columns width ≡ false → Sound (blank rows columns width)
blank_sound rows columns width size = record {
  size = size;
  sized = length-replicate (rows * columns) no_cell;
  four = refl;
  ranged = λ r c p q. rw (get_or-replicate (rows * columns) (r * columns + c) no_cell no_cell (place_below rows columns r c p q)) (still_ranged false (pos 0) 0 zero-le zero-le);
  ghosts = λ hand k h. walled four_walls refl hand _;
}

lay_sound : (t : Table) → Sound t → t.sides ≡ four_walls → (row column : ℕ) (bed : ℤ) (depth : ℕ) → nat_abs bed ≤ max_bed → depth ≤ max_depth → Sound (with_cells t (set t.cells (row * t.columns + column) (fresh bed depth)))
lay_sound t sound walls row column bed depth bedded shallow = record {
  size = sound.size;
  sized = length-set t.cells (row * t.columns + column) (fresh bed depth) ∙ sound.sized;
  four = sound.four;
  ranged = λ r c p q.
      ⊎_elim
      (λ e. rw (get_or-set_at t.cells (row * t.columns + column) (r * t.columns + c) (fresh bed depth) no_cell e (omega (arith, place_below t.rows t.columns r c p q, sound.sized))) (still_ranged true bed depth bedded shallow))
      (λ e. rw (get_or-set_other t.cells (row * t.columns + column) (r * t.columns + c) (fresh bed depth) no_cell e) (sound.ranged r c p q))
      (cases_eq (r * t.columns + c) (row * t.columns + column));
  ghosts = λ hand k b. walled t.sides walls hand _;
}

open_sound : (t : Table) → Sound t → Sound (with_sides (with_cells t (map at_rest t.cells)) four_walls)
open_sound t sound =
    let s = map_sound t sound at_rest (λ k. refl) (λ r c p q. still_ranged (cell_at t r c).laid (cell_at t r c).bed (cell_at t r c).depth (sound.ranged r c p q).bed (sound.ranged r c p q).depth) in
    record { size = s.size; sized = s.sized; four = refl; ranged = s.ranged; ghosts = λ hand k h. walled four_walls refl hand _ }

-- ---- the calls

module _ (rules : Rules) (friction : LawfulFriction rules.slowed) where
  step_sound : (t : Table) → Sound t → (rate : ℕ) → rate_amiss rate ≡ false → ((r c : ℕ) → r < t.rows → c < t.columns → over_brim rules t rate r c ≡ false) → Sound (stepped rules t rate)
  step_sound t sound rate e brim =
      let rate_in = inside 1 max_rate rate e in
      cells_sound t sound (grid t.rows t.columns (new_cell rules t rate)) (length_grid t.rows t.columns (new_cell rules t rate))
      (λ r c p q. rw (grid_at t.rows t.columns (new_cell rules t rate) r c p q) (new_ranged rules friction (cell_at t r c) (face t r c) (span t rate) rate (sound.ranged r c p q) rate_in.0 rate_in.1 (brim r c p q)))
      (λ r c p q. ap (λ (k : Cell). k.bed) (grid_at t.rows t.columns (new_cell rules t rate) r c p q))

  accepted_sound : (b : Book) (x : Call) → SoundBook b → SoundAt (stage_of x) b.table → NoneThere (faults rules b x) → SoundBook (accepted rules b x).book
  accepted_sound b (Prepare rows columns width) h s n =
      (blank_sound rows columns width n.0, refl)
  accepted_sound b (Lay row column bed depth) h s n = (lay_sound b.table s.0 s.1 row column bed depth (grind (arith, ints, nat_tests, n.1.0)) (ltb-false max_depth depth n.1.1.0), s.1)
  accepted_sound b Opening h s n = open_sound b.table s.0
  accepted_sound b (Step rate) h s n = step_sound b.table s rate n.0 (no_place b.table (over_brim rules b.table rate) n.1.1.0)
  accepted_sound b (Rain amount) h s n =
      map_sound b.table s (rained amount) (λ k. refl)
      (λ r c p q. rained_ranged amount (cell_at b.table r c) (s.ranged r c p q) (ltb-false max_depth ((cell_at b.table r c).depth + amount) (no_place b.table (λ y x. ltb max_depth ((cell_at b.table y x).depth + amount)) n.1.0 r c p q)))
  accepted_sound b (Soak amount) h s n = map_sound b.table s (soaked amount) (λ k. refl) (λ r c p q. soaked_ranged amount (cell_at b.table r c) (s.ranged r c p q))
  accepted_sound b (ChangeSide side kind x y) h s n =
      change_sound b.table s (hand_of side) (side_of kind x y) (side_allowed kind x y (or_parts (ltb 3 side) (side_amiss kind x y) n.0).1) n.1.0
  accepted_sound b Close h s n = s
  accepted_sound b x h s n = h

  pub sound_kept : (b : Book) (x : Call) → SoundBook b → b.stage ≡ stage_of x → NoneThere (faults rules b x) → SoundBook (accepted rules b x).book
  sound_kept b x h e n = accepted_sound b x h (subst (λ s. SoundAt s b.table) e h) n

  pub answer_sound : (b : Book) (x : Call) → SoundBook b → SoundBook (answer rules b x).book
  answer_sound b x h = answer_book rules SoundBook b x h (sound_kept b x h)

  pub book_sound : (calls : List Call) → SoundBook (book_after rules calls)
  book_sound calls = after_book rules SoundBook sound_kept empty_book calls refl

-- ---- at any stage

pub sound_at : (s : Stage) (t : Table) → SoundAt s t → 0 < t.rows → Sound t
sound_at start t h p = let z : t.rows ≡ 0 = ap (λ (u : Table). u.rows) h in absurd (omega arith)
sound_at preparing t h p = h.0
sound_at s t h p = h

pub sound_serving : (b : Book) → b.stage ≡ serving → SoundBook b → Sound b.table
sound_serving b e h = subst (λ s. SoundAt s b.table) e h

-- ---- an accepted step

module _ (rules : Rules) (flux : LawfulFlux rules.water rules.push) (b : Book) (sound : SoundBook b) (rate : ℕ) (done : (answer rules b (Step rate)).reply ≡ Done)
    (r c : ℕ) (on : OnSheet b.table r c) where
  pub step_overdraws_none : leaving rules b.table rate r c ≤ (cell_at b.table r c).depth
  step_overdraws_none =
      let d = answer_done rules b (Step rate) done in
      not_overdrawn rules flux b.table (sound_serving b d.0 sound) rate d.1.1.0 r c on.0 on.1

  pub step_exact : (cell_at (answer rules b (Step rate)).book.table r c).depth + leaving rules b.table rate r c ≡ (cell_at b.table r c).depth + arriving rules b.table rate r c
  step_exact =
      ap (λ (n : Book). (cell_at n.table r c).depth + leaving rules b.table rate r c) (answer_done rules b (Step rate) done).2
      ∙ stepped_exact rules b.table rate r c on.0 on.1 step_overdraws_none
