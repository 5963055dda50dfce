-- A face of the turned sheet is the face that comes there, with its two sides exchanged, with the velocity along it turned about, or as it was.
use Rattle.std.proofs.Common.{⊎_elim, ◌≡◌, ℕ, zero, suc, ◌+◌, ◌<◌, ◌≤◌, neg_ℤ, Some, None, refl, arith}
use lib.IntN.{neg_ℤ-neg_ℤ}
use Rattle.std.proofs.lemmas.Bool.{cases_lt, lt-ltb, le-ltb}
use Rattle.book.specs.declared.cell.Cell.{Cell}
use Rattle.book.specs.declared.side.Hand.{Hand}
use Rattle.book.specs.declared.side.Hand.TheVariants.{West, East, South, North}
use Rattle.book.specs.declared.side.Side.{Side}
use Rattle.book.specs.declared.side.Side.TheVariants.{Fed}
use Rattle.book.specs.declared.turn.Turn.{Turn}
use Rattle.book.specs.declared.turn.Turn.TheVariants.{EastWest, SouthNorth, RowsColumns}
use Rattle.book.specs.Faces.{Column, FaceSide, Face, column, ghost, face_of}
use Rattle.book.specs.Sheets.{Table, Place, cell_at, side_at, neighbour, beyond, face}
use Rattle.book.specs.Turns.{mirrored, turned_rows, turned_columns, turned_hand, turned_cell, turned_table}
use Rattle.book.proofs.Numbers.{velocity_neg, where_wet_neg, greater_swap}
use Rattle.book.proofs.Sums.{came_from, mirrored_in, mirrored_below}
use Rattle.book.proofs.Grids.{grid_at}

-- ---- columns and faces, exchanged and turned about

abbrev flip_column : Column → Column
flip_column k = record { bed = k.bed; depth = k.depth; normal = neg_ℤ k.normal; along = k.along }

abbrev counter_column : Column → Column
counter_column k = record { bed = k.bed; depth = k.depth; normal = k.normal; along = neg_ℤ k.along }

abbrev flip_side : FaceSide → FaceSide
flip_side k = record { depth = k.depth; normal = neg_ℤ k.normal; along = k.along }

abbrev counter_side : FaceSide → FaceSide
counter_side k = record { depth = k.depth; normal = k.normal; along = neg_ℤ k.along }

abbrev pub flip : Face → Face
flip f = record { left = flip_side f.right; right = flip_side f.left }

abbrev pub counter : Face → Face
counter f = record { left = counter_side f.left; right = counter_side f.right }

abbrev turned_column : Turn → Hand → Column → Column
turned_column EastWest West k = flip_column k
turned_column EastWest East k = flip_column k
turned_column SouthNorth South k = flip_column k
turned_column SouthNorth North k = flip_column k
turned_column RowsColumns hand k = k
turned_column τ hand k = counter_column k

abbrev pub turned_face : Turn → Hand → Face → Face
turned_face EastWest West f = flip f
turned_face EastWest East f = flip f
turned_face SouthNorth South f = flip f
turned_face SouthNorth North f = flip f
turned_face RowsColumns hand f = f
turned_face τ hand f = counter f

column_turned : (τ : Turn) (hand : Hand) (k : Cell) → column hand (turned_cell τ k) ≡ turned_column τ hand (column (turned_hand τ hand) k)
column_turned EastWest West k = rw velocity_neg
column_turned SouthNorth West k = rw velocity_neg
column_turned RowsColumns West k = refl
column_turned RowsColumns hand k = refl
column_turned τ hand k = rw velocity_neg

ghost_turned : (τ : Turn) (hand : Hand) (s : Side) (k : Column) → ghost s hand (turned_column τ hand k) ≡ turned_column τ hand (ghost s (turned_hand τ hand) k)
ghost_turned EastWest West (Fed a b) k = rw neg_ℤ-neg_ℤ
ghost_turned EastWest East (Fed a b) k = refl
ghost_turned EastWest South (Fed a b) k = refl
ghost_turned EastWest North (Fed a b) k = refl
ghost_turned SouthNorth West (Fed a b) k = refl
ghost_turned SouthNorth East (Fed a b) k = refl
ghost_turned SouthNorth South (Fed a b) k = rw neg_ℤ-neg_ℤ
ghost_turned SouthNorth North (Fed a b) k = refl
ghost_turned RowsColumns West (Fed a b) k = refl
ghost_turned RowsColumns East (Fed a b) k = refl
ghost_turned RowsColumns South (Fed a b) k = refl
ghost_turned RowsColumns North (Fed a b) k = refl
ghost_turned τ hand s k = refl

face_of_turned : (τ : Turn) (hand : Hand) (a b : Column) → face_of hand (turned_column τ hand a) (turned_column τ hand b) ≡ turned_face τ hand (face_of (turned_hand τ hand) a b)
face_of_turned EastWest South a b = simp where_wet_neg
face_of_turned EastWest North a b = simp where_wet_neg
face_of_turned SouthNorth West a b = simp where_wet_neg
face_of_turned SouthNorth East a b = simp where_wet_neg
face_of_turned RowsColumns West a b = refl
face_of_turned RowsColumns hand a b = refl
face_of_turned τ hand a b = rw (greater_swap a.bed b.bed) (simp where_wet_neg)

-- ---- places

module _ (τ : Turn) (t : Table) where
  -- the rows and columns of the turned sheet
  abbrev pub high : ℕ
  high = turned_rows τ t.rows t.columns

  abbrev pub wide : ℕ
  wide = turned_columns τ t.rows t.columns

  -- the place that comes to row r and column c of the turned sheet
  abbrev pub came : ℕ → ℕ → Place
  came r c = came_from τ t.rows t.columns r c

  -- the cell that comes there
  abbrev pub came_cell : ℕ → ℕ → Cell
  came_cell r c = cell_at t (came r c).row (came r c).column

pub came_row : (τ : Turn) (t : Table) (r c : ℕ) → r < high τ t → c < wide τ t → (came τ t r c).row < t.rows
came_row EastWest t r c h k = h
came_row SouthNorth t r c h k = mirrored_below t.rows r h
came_row RowsColumns t r c h k = k

pub came_column : (τ : Turn) (t : Table) (r c : ℕ) → r < high τ t → c < wide τ t → (came τ t r c).column < t.columns
came_column EastWest t r c h k = mirrored_below t.columns c k
came_column SouthNorth t r c h k = k
came_column RowsColumns t r c h k = h

pub cell_turned : (τ : Turn) (t : Table) (r c : ℕ) → r < high τ t → c < wide τ t →
    cell_at (turned_table τ t) r c ≡ turned_cell τ (came_cell τ t r c)
cell_turned τ t r c h k = grid_at (high τ t) (wide τ t) (λ i j. turned_cell τ (came_cell τ t i j)) r c h k

side_turned : (τ : Turn) (t : Table) (hand : Hand) → side_at (turned_table τ t) hand ≡ side_at t (turned_hand τ hand)
side_turned τ t West = refl
side_turned τ t hand = refl

-- a cell of the turned sheet, and the cell that came there, both have a side of the sheet to a hand, or have neighbours that come to one another
data Meeting (τ : Turn) (t : Table) (r c : ℕ) (hand : Hand) : Type 0 where
  at_a_side : neighbour (turned_table τ t) r c hand ≡ None → neighbour t (came τ t r c).row (came τ t r c).column (turned_hand τ hand) ≡ None → Meeting τ t r c hand
  next_to : (q : Place) → q.row < high τ t → q.column < wide τ t →
      neighbour (turned_table τ t) r c hand ≡ Some q → neighbour t (came τ t r c).row (came τ t r c).column (turned_hand τ hand) ≡ Some (came τ t q.row q.column) → Meeting τ t r c hand

meeting : (τ : Turn) (hand : Hand) (t : Table) (r c : ℕ) → r < high τ t → c < wide τ t → Meeting τ t r c hand
meeting EastWest West t r zero h k = at_a_side refl (rw (le-ltb (mirrored t.columns 0 + 1) t.columns (omega (arith, mirrored_in t.columns 0 k))))
meeting EastWest West t r (suc c) h k =
    let l : c < t.columns = omega arith in
    let e : mirrored t.columns (suc c) + 1 ≡ mirrored t.columns c = omega (arith, mirrored_in t.columns (suc c) k, mirrored_in t.columns c l) in
    next_to (record { row = r; column = c }) h l refl (rw (e, lt-ltb (mirrored t.columns c) t.columns (mirrored_below t.columns c l)))
meeting EastWest East t r c h k =
    ⊎_elim
    (λ (l : c + 1 < t.columns).
    let e : mirrored t.columns c ≡ suc (mirrored t.columns (c + 1)) = omega (arith, mirrored_in t.columns c k, mirrored_in t.columns (c + 1) l) in
    next_to (record { row = r; column = c + 1 }) h l (rw lt-ltb) (rw e))
    (λ (l : t.columns ≤ c + 1). let e : mirrored t.columns c ≡ 0 = omega (arith, mirrored_in t.columns c k) in at_a_side (rw le-ltb) (rw e)) (cases_lt (c + 1) t.columns)
meeting EastWest South t (suc r) c h k = next_to (record { row = r; column = c }) (omega arith) k refl refl
meeting EastWest North t r c h k =
    ⊎_elim (λ (l : r + 1 < t.rows). next_to (record { row = r + 1; column = c }) l k (rw lt-ltb) (rw (lt-ltb (r + 1) t.rows l))) (λ (l : t.rows ≤ r + 1). at_a_side (rw le-ltb) (rw (le-ltb (r + 1) t.rows l))) (cases_lt (r + 1) t.rows)
meeting SouthNorth West t r (suc c) h k = next_to (record { row = r; column = c }) h (omega arith) refl refl
meeting SouthNorth East t r c h k =
    ⊎_elim (λ (l : c + 1 < t.columns). next_to (record { row = r; column = c + 1 }) h l (rw lt-ltb) (rw (lt-ltb (c + 1) t.columns l))) (λ (l : t.columns ≤ c + 1). at_a_side (rw le-ltb) (rw (le-ltb (c + 1) t.columns l))) (cases_lt (c + 1) t.columns)
meeting SouthNorth South t zero c h k = at_a_side refl (rw (le-ltb (mirrored t.rows 0 + 1) t.rows (omega (arith, mirrored_in t.rows 0 h))))
meeting SouthNorth South t (suc r) c h k =
    let l : r < t.rows = omega arith in
    let e : mirrored t.rows (suc r) + 1 ≡ mirrored t.rows r = omega (arith, mirrored_in t.rows (suc r) h, mirrored_in t.rows r l) in
    next_to (record { row = r; column = c }) l k refl (rw (e, lt-ltb (mirrored t.rows r) t.rows (mirrored_below t.rows r l)))
meeting SouthNorth North t r c h k =
    ⊎_elim
    (λ (l : r + 1 < t.rows).
    let e : mirrored t.rows r ≡ suc (mirrored t.rows (r + 1)) = omega (arith, mirrored_in t.rows r h, mirrored_in t.rows (r + 1) l) in
    next_to (record { row = r + 1; column = c }) l k (rw lt-ltb) (rw e))
    (λ (l : t.rows ≤ r + 1). let e : mirrored t.rows r ≡ 0 = omega (arith, mirrored_in t.rows r h) in at_a_side (rw le-ltb) (rw e)) (cases_lt (r + 1) t.rows)
meeting RowsColumns West t r (suc c) h k = next_to (record { row = r; column = c }) h (omega arith) refl refl
meeting RowsColumns East t r c h k =
    ⊎_elim (λ (l : c + 1 < t.rows). next_to (record { row = r; column = c + 1 }) h l (rw lt-ltb) (rw lt-ltb)) (λ (l : t.rows ≤ c + 1). at_a_side (rw le-ltb) (rw le-ltb)) (cases_lt (c + 1) t.rows)
meeting RowsColumns South t (suc r) c h k = next_to (record { row = r; column = c }) (omega arith) k refl refl
meeting RowsColumns North t r c h k =
    ⊎_elim (λ (l : r + 1 < t.columns). next_to (record { row = r + 1; column = c }) l k (rw lt-ltb) (rw lt-ltb)) (λ (l : t.columns ≤ r + 1). at_a_side (rw le-ltb) (rw le-ltb)) (cases_lt (r + 1) t.columns)
meeting τ hand t r c h k = at_a_side refl refl

-- ---- faces

module _ (τ : Turn) (t : Table) (r c : ℕ) (h : r < high τ t) (k : c < wide τ t) where
  own_turned : (hand : Hand) → column hand (cell_at (turned_table τ t) r c) ≡ turned_column τ hand (column (turned_hand τ hand) (came_cell τ t r c))
  own_turned hand = rw (cell_turned τ t r c h k, column_turned)

  beyond_met : (hand : Hand) → Meeting τ t r c hand → beyond (turned_table τ t) r c hand ≡ turned_column τ hand (beyond t (came τ t r c).row (came τ t r c).column (turned_hand τ hand))
  beyond_met hand (at_a_side e e') = rw (e, e', side_turned τ t hand, own_turned hand, ghost_turned)
  beyond_met hand (next_to q i j e e') = rw (e, e', cell_turned τ t q.row q.column i j, column_turned)

  pub face_turned : (hand : Hand) → face (turned_table τ t) r c hand ≡ turned_face τ hand (face t (came τ t r c).row (came τ t r c).column (turned_hand τ hand))
  face_turned hand = rw (own_turned hand, beyond_met hand (meeting τ hand t r c h k), face_of_turned)
