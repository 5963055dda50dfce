-- A sheet of cells as a table: its places, neighbours and sides, what a step does at each place, and sums and tests over places.
use Rattle.std.specs.Prelude.{ℕ, zero, suc, ◌+◌, ◌-◌, ◌*◌, ◌/◌, ◌%◌, Bool, false, cond, ◌||◌, List, [], ◌∷◌, map, replicate, pos, Some, None, Option, nat_le, nat_lt, slice_index_or}
use Rattle.std.specs.List.{range_with_len}
use Rattle.book.specs.declared.cell.Cell.{Cell}
use Rattle.book.specs.declared.side.Hand.{Hand}
use Rattle.book.specs.declared.side.Hand.TheVariants.{West, East, South, North}
use Rattle.book.specs.declared.side.Side.{Side}
use Rattle.book.specs.declared.side.Side.TheVariants.{Wall}
use Rattle.book.specs.Faces.{Column, Face, column, ghost, face_of, pace}
use Rattle.book.specs.Step.{Rules, all_hands, gives, takes, brim_after, cell_after}

-- ---- tables

-- cells row by row from the south-west; sides in the order of their numbers
pub record Table : Type 0 where
  pub rows : ℕ
  pub columns : ℕ
  pub width : ℕ
  pub cells : List Cell
  pub sides : List Side

-- a cell that is not laid
abbrev pub no_cell : Cell
no_cell = record { laid = false; bed = pos 0; depth = 0; east = pos 0; north = pos 0 }

-- the cell in row r and column c
abbrev pub cell_at : Table → ℕ → ℕ → Cell
cell_at t r c = slice_index_or t.cells (r * t.columns + c) no_cell

-- the number of a side, and the side that stands to a hand
abbrev pub side_number : Hand → ℕ
side_number West = 0
side_number East = 1
side_number South = 2
side_number North = 3

abbrev pub side_at : Table → Hand → Side
side_at t hand = slice_index_or t.sides (side_number hand) Wall

-- the sides of a sheet as it is prepared and opened
abbrev pub four_walls : List Side
four_walls = Wall ∷ Wall ∷ Wall ∷ Wall ∷ []

-- no sheet, and a new one
abbrev pub no_table : Table
no_table = record { rows = 0; columns = 0; width = 0; cells = []; sides = four_walls }

abbrev pub blank : ℕ → ℕ → ℕ → Table
blank rows columns width = record { rows = rows; columns = columns; width = width; cells = replicate (rows * columns) no_cell; sides = four_walls }

-- the table with other cells, and with other sides
abbrev pub with_cells : Table → List Cell → Table
with_cells t cells = record { rows = t.rows; columns = t.columns; width = t.width; cells = cells; sides = t.sides }

abbrev pub with_sides : Table → List Side → Table
with_sides t sides = record { rows = t.rows; columns = t.columns; width = t.width; cells = t.cells; sides = sides }

-- the list of cells that has f r c in row r and column c
abbrev pub grid : ℕ → ℕ → (ℕ → ℕ → Cell) → List Cell
grid rows columns f = map (λ k. f (k / columns) (k % columns)) (range_with_len 0 (rows * columns))

-- ---- places

-- row 0 is the southernmost, column 0 the westernmost
pub record Place : Type 0 where
  pub row : ℕ
  pub column : ℕ

-- no row or no column of the sheet
abbrev pub off_sheet : Table → ℕ → ℕ → Bool
off_sheet t r c = nat_le t.rows r || nat_le t.columns c

-- the place next to row r and column c, absent at the edge of the sheet
abbrev pub neighbour : Table → ℕ → ℕ → Hand → Option Place
neighbour t r zero West = None
neighbour t r (suc c) West = Some (record { row = r; column = c })
neighbour t r c East = cond (nat_lt (c + 1) t.columns) (Some (record { row = r; column = c + 1 })) None
neighbour t zero c South = None
neighbour t (suc r) c South = Some (record { row = r; column = c })
neighbour t r c North = cond (nat_lt (r + 1) t.rows) (Some (record { row = r + 1; column = c })) None

-- how many places lie along a side of a sheet of so many rows and columns, and the k-th of them
abbrev pub border_length : ℕ → ℕ → Hand → ℕ
border_length rows columns West = rows
border_length rows columns East = rows
border_length rows columns South = columns
border_length rows columns North = columns

abbrev pub border_place : ℕ → ℕ → Hand → ℕ → Place
border_place rows columns West k = record { row = k; column = 0 }
border_place rows columns East k = record { row = k; column = columns - 1 }
border_place rows columns South k = record { row = 0; column = k }
border_place rows columns North k = record { row = rows - 1; column = k }

-- the k-th cell along that side
abbrev pub border_cell : Table → Hand → ℕ → Cell
border_cell t hand k = cell_at t (border_place t.rows t.columns hand k).row (border_place t.rows t.columns hand k).column

-- ---- sums and tests over places

-- over the numbers below n
abbrev pub sum_below : ℕ → (ℕ → ℕ) → ℕ
sum_below zero f = 0
sum_below (suc n) f = sum_below n f + f n

abbrev pub some_below : ℕ → (ℕ → Bool) → Bool
some_below zero p = false
some_below (suc n) p = some_below n p || p n

-- over all places
abbrev pub sum_places : Table → (ℕ → ℕ → ℕ) → ℕ
sum_places t f = sum_below t.rows (λ r. sum_below t.columns (λ c. f r c))

abbrev pub some_place : Table → (ℕ → ℕ → Bool) → Bool
some_place t p = some_below t.rows (λ r. some_below t.columns (λ c. p r c))

-- along the side to the given hand
module _ {A : Type 0} (below : ℕ → (ℕ → A) → A) where
  abbrev pub along_side : ℕ → ℕ → Hand → (ℕ → ℕ → A) → A
  along_side rows columns hand f = below (border_length rows columns hand) (λ k. f (border_place rows columns hand k).row (border_place rows columns hand k).column)

abbrev pub sum_side : Table → Hand → (ℕ → ℕ → ℕ) → ℕ
sum_side t hand f = along_side sum_below t.rows t.columns hand f

abbrev pub some_side : Table → Hand → (ℕ → ℕ → Bool) → Bool
some_side t hand p = along_side some_below t.rows t.columns hand p

-- over the four hands
abbrev pub some_hand : (Hand → Bool) → Bool
some_hand p = (p West || p East) || (p South || p North)

-- the water that stands on the sheet
abbrev pub standing : Table → ℕ
standing t = sum_places t (λ r c. (cell_at t r c).depth)

-- ---- the faces of a place

-- what lies at the other side of the face to the given hand: the neighbour, or the ghost beyond that side
abbrev pub seen : Table → ℕ → ℕ → Hand → Option Place → Column
seen t r c hand (Some p) = column hand (cell_at t p.row p.column)
seen t r c hand None = ghost (side_at t hand) hand (column hand (cell_at t r c))

-- the same by the place alone
abbrev pub beyond : Table → ℕ → ℕ → Hand → Column
beyond t r c hand = seen t r c hand (neighbour t r c hand)

-- the face of the cell in row r and column c to the given hand
abbrev pub face : Table → ℕ → ℕ → Hand → Face
face t r c hand = face_of hand (column hand (cell_at t r c)) (beyond t r c hand)

-- ---- one step of the sheet

-- K: the width of a cell times the rate
abbrev pub span : Table → ℕ → ℕ
span t rate = t.width * rate

-- 4·m exceeds K on some face
abbrev pub too_slow : Table → ℕ → Bool
too_slow t rate = some_place t (λ r c. some_hand (λ hand. nat_lt (span t rate) (4 * pace (face t r c hand))))

module _ (rules : Rules) (t : Table) (rate : ℕ) where
  -- the water that leaves the cell in row r and column c over its face to the given hand, and what arrives there
  abbrev pub leaves : ℕ → ℕ → Hand → ℕ
  leaves r c hand = gives rules (span t rate) hand (face t r c hand)

  abbrev pub arrives : ℕ → ℕ → Hand → ℕ
  arrives r c hand = takes rules (span t rate) hand (face t r c hand)

  -- over all its faces
  abbrev pub leaving : ℕ → ℕ → ℕ
  leaving r c = all_hands (leaves r c)

  abbrev pub arriving : ℕ → ℕ → ℕ
  arriving r c = all_hands (arrives r c)

  -- the cell in row r and column c after the step
  abbrev pub new_cell : ℕ → ℕ → Cell
  new_cell r c = cell_after rules (cell_at t r c) (face t r c) (span t rate) rate

  -- the brim is passed in that cell, and in some cell
  abbrev pub over_brim : ℕ → ℕ → Bool
  over_brim r c = brim_after rules (cell_at t r c) (face t r c) (span t rate)

  abbrev pub brim_passed : Bool
  brim_passed = some_place t over_brim

  -- every face reads the cells as they were before the step
  abbrev pub stepped : Table
  stepped = with_cells t (grid t.rows t.columns new_cell)
