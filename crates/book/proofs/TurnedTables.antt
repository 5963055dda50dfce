-- The parts of a turned table: its places, its lists of cells and of sides, and sums and tests along its sides.
use Rattle.std.proofs.Common.{◌≡◌, ℕ, ◌+◌, ◌-◌, ◌*◌, ◌<◌, ◌≤◌, Bool, ◌||◌, ltb, List, [], ◌∷◌, map, length, get_or, set, replicate, sym, refl, ap, ◌∙◌, ap₂, inl, inr, arith}
use Rattle.std.proofs.lemmas.List.{length-map, length-set, get_or-set_other, length-replicate, get_or-replicate}
use Rattle.std.proofs.lemmas.Bool.{cases_eq}
use Rattle.book.specs.declared.cell.Cell.{Cell}
use Rattle.book.specs.declared.side.Hand.{Hand}
use Rattle.book.specs.declared.side.Hand.TheVariants.{West, East, South, North}
use Rattle.book.specs.declared.side.Side.{Side}
use Rattle.book.specs.declared.side.Side.TheVariants.{Wall, Held}
use Rattle.book.specs.declared.turn.Turn.{Turn}
use Rattle.book.specs.declared.turn.Turn.TheVariants.{EastWest, SouthNorth, RowsColumns}
use Rattle.book.specs.Ranges.{max_depth}
use Rattle.book.specs.Faces.{held_depth}
use Rattle.book.specs.Sheets.{Table, Place, cell_at, no_cell, side_number, some_below, some_hand, along_side, standing, four_walls, blank, with_cells}
use Rattle.book.specs.Calls.{held_over}
use Rattle.book.specs.Turns.{mirrored, turned_rows, turned_columns, turned_place, turned_hand, turned_cell, turned_table}
use Rattle.book.proofs.Sound.{Sound}
use Rattle.book.proofs.Sums.{mirrored_in, mirrored_below, mirrored_twice, sum_turned, some_same, some_mirrored}
use Rattle.std.proofs.Math.Bool.{or_comm}
use Rattle.book.proofs.Grids.{map_at, place_below, length_grid, grid_from}
use Rattle.std.proofs.lemmas.Nat.{same_from_place}
use Rattle.std.proofs.lemmas.Grind.{get_or-set_at}
use Rattle.book.proofs.Neighbours.{rows_some, columns_some}
use Rattle.book.proofs.TurnedFaces.{high, wide, came, came_cell, came_row, came_column, cell_turned}
use Rattle.book.proofs.TurnedCells.{depth_kept}

-- ---- hands

pub hand_twice : (τ : Turn) (hand : Hand) → turned_hand τ (turned_hand τ hand) ≡ hand
hand_twice EastWest West = refl
hand_twice SouthNorth West = refl
hand_twice RowsColumns West = refl
hand_twice τ hand = refl

pub some_hand_turned : (τ : Turn) (p q : Hand → Bool) → ((hand : Hand) → p hand ≡ q (turned_hand τ hand)) → some_hand p ≡ some_hand q
some_hand_turned τ p q h = (λ i. (h West i || h East i) || (h South i || h North i)) ∙ by τ
  where
    by : (τ : Turn) → some_hand (λ hand. q (turned_hand τ hand)) ≡ some_hand q
    by EastWest = rw (or_comm (q East) (q West))
    by SouthNorth = rw (or_comm (q North) (q South))
    by RowsColumns = or_comm (q South || q North) (q West || q East)

-- ---- places

-- where row r and column c come to
abbrev pub sent : Turn → Table → ℕ → ℕ → Place
sent τ t r c = turned_place τ t.rows t.columns (record { row = r; column = c })

pub sent_row : (τ : Turn) (t : Table) (r c : ℕ) → r < t.rows → c < t.columns → (sent τ t r c).row < high τ t
sent_row EastWest t r c h k = h
sent_row SouthNorth t r c h k = mirrored_below t.rows r h
sent_row RowsColumns t r c h k = k

pub sent_column : (τ : Turn) (t : Table) (r c : ℕ) → r < t.rows → c < t.columns → (sent τ t r c).column < wide τ t
sent_column EastWest t r c h k = mirrored_below t.columns c k
sent_column SouthNorth t r c h k = k
sent_column RowsColumns t r c h k = h

pub came_sent : (τ : Turn) (t : Table) (r c : ℕ) → r < t.rows → c < t.columns → came τ t (sent τ t r c).row (sent τ t r c).column ≡ record { row = r; column = c }
came_sent EastWest t r c h k = rw (mirrored_twice t.columns c k)
came_sent SouthNorth t r c h k = rw (mirrored_twice t.rows r h)
came_sent RowsColumns t r c h k = refl

sent_came : (τ : Turn) (t : Table) (r c : ℕ) → r < high τ t → c < wide τ t → sent τ t (came τ t r c).row (came τ t r c).column ≡ record { row = r; column = c }
sent_came EastWest t r c h k = rw (mirrored_twice t.columns c k)
sent_came SouthNorth t r c h k = rw (mirrored_twice t.rows r h)
sent_came RowsColumns t r c h k = refl

-- ---- along a side of the sheet

mirrored_first : (n : ℕ) → 1 ≤ n → mirrored n 0 ≡ n - 1
mirrored_first n h = omega (arith, mirrored_in n 0 h)

mirrored_last : (n : ℕ) → 1 ≤ n → mirrored n (n - 1) ≡ 0
mirrored_last n h = omega (arith, mirrored_in n (n - 1) (omega arith))

module _ {A : Type 0} (B : ℕ → (ℕ → A) → A)
    (same : (n : ℕ) (f g : ℕ → A) → ((k : ℕ) → k < n → f k ≡ g k) → B n f ≡ B n g)
    (mirror : (n : ℕ) (f : ℕ → A) → B n (λ k. f (mirrored n k)) ≡ B n f)
    (t : Table) (tall : 1 ≤ t.rows) (broad : 1 ≤ t.columns) where
  pub side_turned_by : (τ : Turn) (hand : Hand) (f g : ℕ → ℕ → A) →
      ((r c : ℕ) → r < high τ t → c < wide τ t → f r c ≡ g (came τ t r c).row (came τ t r c).column) →
      along_side B (high τ t) (wide τ t) hand f ≡ along_side B t.rows t.columns (turned_hand τ hand) g
  side_turned_by EastWest West f g h = same _ _ _ (λ r l. h r 0 l broad ∙ ap (g r) (mirrored_first t.columns broad))
  side_turned_by EastWest East f g h = same _ _ _ (λ r l. h r (t.columns - 1) l (omega arith) ∙ ap (g r) (mirrored_last t.columns broad))
  side_turned_by EastWest South f g h = same _ _ _ (λ c l. h 0 c tall l) ∙ mirror t.columns (g 0)
  side_turned_by EastWest North f g h = same _ _ _ (λ c l. h (t.rows - 1) c (omega arith) l) ∙ mirror t.columns (g (t.rows - 1))
  side_turned_by SouthNorth West f g h = same _ _ _ (λ r l. h r 0 l broad) ∙ mirror t.rows (λ r. g r 0)
  side_turned_by SouthNorth East f g h = same _ _ _ (λ r l. h r (t.columns - 1) l (omega arith)) ∙ mirror t.rows (λ r. g r (t.columns - 1))
  side_turned_by SouthNorth South f g h = same _ _ _ (λ c l. h 0 c tall l ∙ ap (λ r. g r c) (mirrored_first t.rows tall))
  side_turned_by SouthNorth North f g h = same _ _ _ (λ c l. h (t.rows - 1) c (omega arith) l ∙ ap (λ r. g r c) (mirrored_last t.rows tall))
  side_turned_by RowsColumns West f g h = same _ _ _ (λ r l. h r 0 l tall)
  side_turned_by RowsColumns East f g h = same _ _ _ (λ r l. h r (t.rows - 1) l (omega arith))
  side_turned_by RowsColumns South f g h = same _ _ _ (λ c l. h 0 c broad l)
  side_turned_by RowsColumns North f g h = same _ _ _ (λ c l. h (t.columns - 1) c (omega arith) l)

-- ---- cells

bed_kept : (τ : Turn) (k : Cell) → (turned_cell τ k).bed ≡ k.bed
bed_kept EastWest k = refl
bed_kept τ k = refl

pub laid_kept : (τ : Turn) (k : Cell) → (turned_cell τ k).laid ≡ k.laid
laid_kept EastWest k = refl
laid_kept τ k = refl

no_cell_turned : (τ : Turn) → turned_cell τ no_cell ≡ no_cell
no_cell_turned EastWest = refl
no_cell_turned τ = refl

module _ (τ : Turn) (t : Table) where
  pub depth_came : (r c : ℕ) → r < high τ t → c < wide τ t → (cell_at (turned_table τ t) r c).depth ≡ (came_cell τ t r c).depth
  depth_came r c h k = rw (cell_turned τ t r c h k, depth_kept)

  pub laid_came : (r c : ℕ) → r < high τ t → c < wide τ t → (cell_at (turned_table τ t) r c).laid ≡ (came_cell τ t r c).laid
  laid_came r c h k = rw (cell_turned τ t r c h k, laid_kept)

  pub standing_turned : standing (turned_table τ t) ≡ standing t
  standing_turned = sum_turned τ t.rows t.columns (λ r c. (cell_at (turned_table τ t) r c).depth) (λ r c. (cell_at t r c).depth) depth_came

  whole : length (turned_table τ t).cells ≡ high τ t * wide τ t
  whole = length_grid (high τ t) (wide τ t) (λ i j. turned_cell τ (came_cell τ t i j))

  -- the list of a table's turned cells
  abbrev pub turned_list : List Cell → List Cell
  turned_list xs = (turned_table τ (with_cells t xs)).cells

  -- the numbers of the places that row r and column c come to and come from
  abbrev sent_number : ℕ → ℕ → ℕ
  sent_number r c = (sent τ t r c).row * wide τ t + (sent τ t r c).column

  abbrev pub came_number : ℕ → ℕ → ℕ
  came_number r c = (came τ t r c).row * t.columns + (came τ t r c).column

  -- a list that has at each place the cell that comes there, turned
  pub turned_from : (xs ys : List Cell) → length xs ≡ high τ t * wide τ t →
      ((r c : ℕ) → r < high τ t → c < wide τ t → get_or xs (r * wide τ t + c) no_cell ≡ turned_cell τ (get_or ys (came_number r c) no_cell)) → xs ≡ turned_list ys
  turned_from xs ys len h = grid_from (high τ t) (wide τ t) xs (λ r c. turned_cell τ (get_or ys (came_number r c) no_cell)) len h

  -- each cell changed alike
  pub mapped_turned : (g : Cell → Cell) → ((k : Cell) → g (turned_cell τ k) ≡ turned_cell τ (g k)) → length t.cells ≡ t.rows * t.columns →
      map g (turned_table τ t).cells ≡ turned_list (map g t.cells)
  mapped_turned g turns len =
      turned_from _ _ (length-map (turned_table τ t).cells g ∙ whole)
      (λ r c h k.
      map_at (high τ t) (wide τ t) (turned_table τ t).cells g r c whole h k
      ∙ (ap g (cell_turned τ t r c h k)
      ∙ (turns (came_cell τ t r c)
      ∙ ap (turned_cell τ) (sym (map_at t.rows t.columns t.cells g _ _ len (came_row τ t r c h k) (came_column τ t r c h k))))))

  number_came : (r c i j : ℕ) → r < t.rows → c < t.columns → i < high τ t → j < wide τ t →
      i * wide τ t + j ≡ sent_number r c → came_number i j ≡ r * t.columns + c
  number_came r c i j h k l m e =
      let at = same_from_place i j (sent τ t r c).row (sent τ t r c).column (wide τ t) m (sent_column τ t r c h k) e in
      ap (λ (p : Place). p.row * t.columns + p.column) (ap₂ (came τ t) at.0 at.1 ∙ came_sent τ t r c h k)

  number_sent : (r c i j : ℕ) → r < t.rows → c < t.columns → i < high τ t → j < wide τ t →
      came_number i j ≡ r * t.columns + c → i * wide τ t + j ≡ sent_number r c
  number_sent r c i j h k l m e =
      let at = same_from_place (came τ t i j).row (came τ t i j).column r c t.columns (came_column τ t i j l m) k e in
      ap (λ (p : Place). p.row * wide τ t + p.column) (sym (sent_came τ t i j l m) ∙ ap₂ (sent τ t) at.0 at.1)

  -- one cell laid
  pub laid_turned : (r c : ℕ) (x : Cell) → r < t.rows → c < t.columns → length t.cells ≡ t.rows * t.columns →
      set (turned_table τ t).cells (sent_number r c) (turned_cell τ x) ≡ turned_list (set t.cells (r * t.columns + c) x)
  laid_turned r c x h k len =
      turned_from _ _ (length-set (turned_table τ t).cells (sent_number r c) (turned_cell τ x) ∙ whole) (λ i j l m.
      elim (cases_eq (i * wide τ t + j) (sent_number r c)) [
        | inl e ↦
            get_or-set_at (turned_table τ t).cells (sent_number r c) (i * wide τ t + j) (turned_cell τ x) no_cell e (omega (arith, whole, place_below (high τ t) (wide τ t) _ _ (sent_row τ t r c h k) (sent_column τ t r c h k)))
            ∙ ap (turned_cell τ) (sym (get_or-set_at t.cells (r * t.columns + c) (came_number i j) x no_cell (number_came r c i j h k l m e) (omega (arith, place_below t.rows t.columns r c h k))))
        | inr e ↦
            get_or-set_other (turned_table τ t).cells (sent_number r c) (i * wide τ t + j) (turned_cell τ x) no_cell e
            ∙ (cell_turned τ t i j l m
            ∙ ap (turned_cell τ) (sym (get_or-set_other t.cells (r * t.columns + c) (came_number i j) x no_cell (λ q. e (number_sent r c i j h k l m q)))))
      ])

-- ---- a new sheet

blank_cells : (τ : Turn) (rows columns width : ℕ) → replicate (turned_rows τ rows columns * turned_columns τ rows columns) no_cell ≡ (turned_table τ (blank rows columns width)).cells
blank_cells τ rows columns width =
    let t : Table = blank rows columns width in
    turned_from τ t _ t.cells (length-replicate (high τ t * wide τ t) no_cell) (λ r c h k.
    get_or-replicate (high τ t * wide τ t) (r * wide τ t + c) no_cell no_cell (place_below (high τ t) (wide τ t) r c h k)
    ∙ (sym (no_cell_turned τ)
    ∙ ap (turned_cell τ) (sym (get_or-replicate (rows * columns) (came_number τ t r c) no_cell no_cell (place_below rows columns _ _ (came_row τ t r c h k) (came_column τ t r c h k))))))

-- ---- sides

abbrev turned_sides : Turn → List Side → List Side
turned_sides τ xs =
    get_or xs (side_number (turned_hand τ West)) Wall ∷ get_or xs (side_number (turned_hand τ East)) Wall ∷ get_or xs (side_number (turned_hand τ South)) Wall ∷ get_or xs (side_number (turned_hand τ North)) Wall ∷ []

pub walls_turned : (τ : Turn) → turned_sides τ four_walls ≡ four_walls
walls_turned EastWest = refl
walls_turned τ = refl

pub blank_turned : (τ : Turn) (rows columns width : ℕ) → turned_table τ (blank rows columns width) ≡ blank (turned_rows τ rows columns) (turned_columns τ rows columns) width
blank_turned τ rows columns width =
    ap₂ (λ xs ss. record { rows = turned_rows τ rows columns; columns = turned_columns τ rows columns; width = width; cells = xs; sides = ss }) (sym (blank_cells τ rows columns width)) (walls_turned τ)

sides_set_four : (τ : Turn) (hand : Hand) (a b c d x : Side) →
    turned_sides τ (set (a ∷ b ∷ c ∷ d ∷ []) (side_number hand) x) ≡ set (turned_sides τ (a ∷ b ∷ c ∷ d ∷ [])) (side_number (turned_hand τ hand)) x
sides_set_four EastWest West a b c d x = refl
sides_set_four SouthNorth West a b c d x = refl
sides_set_four RowsColumns West a b c d x = refl
sides_set_four τ hand a b c d x = refl

pub sides_set : (τ : Turn) (hand : Hand) (xs : List Side) (x : Side) → length xs ≡ 4 →
    turned_sides τ (set xs (side_number hand) x) ≡ set (turned_sides τ xs) (side_number (turned_hand τ hand)) x
sides_set τ hand (a ∷ b ∷ c ∷ d ∷ []) x e = sides_set_four τ hand a b c d x
sides_set τ hand xs x e = absurd (omega arith)

pub held_turned : (τ : Turn) (t : Table) → Sound t → (hand : Hand) (x : Side) → held_over (turned_table τ t) hand x ≡ held_over t (turned_hand τ hand) x
held_turned τ t sound hand (Held a) =
    side_turned_by some_below some_same some_mirrored t (rows_some t sound) (columns_some t sound) τ hand (λ r c. ltb max_depth (held_depth a (cell_at (turned_table τ t) r c).bed)) (λ r c. ltb max_depth (held_depth a (cell_at t r c).bed))
    (λ r c h k. rw (cell_turned τ t r c h k, bed_kept))
held_turned τ t sound hand x = refl
