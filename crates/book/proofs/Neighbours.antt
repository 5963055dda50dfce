-- Hands and places: the number of a hand, the places along a side, and what lies to each hand of a place.
use Rattle.std.proofs.Common.{⊎_elim, ◌≡◌, ℕ, zero, suc, ◌+◌, ◌-◌, ◌<◌, ◌≤◌, Some, None, Option, refl, arith}
use Rattle.std.proofs.lemmas.Bool.{cases_lt, lt-ltb, le-ltb, or_parts}
use Rattle.std.proofs.lemmas.Bool.Decides.{nat_tests}
use Rattle.book.specs.declared.side.Hand.{Hand}
use Rattle.book.specs.declared.side.Hand.TheVariants.{West, East, South, North}
use Rattle.book.specs.Sheets.{Table, Place, side_number, cell_at, side_at, neighbour, border_length, border_place}
use Rattle.book.specs.Calls.{hand_of}
use Rattle.book.proofs.Sound.{Sound, GhostKept}

pub hand_there : (hand : Hand) → hand_of (side_number hand) ≡ hand
hand_there West = refl
hand_there hand = refl

pub number_below : (hand : Hand) → side_number hand < 4
number_below West = omega arith
number_below hand = omega arith

-- a sheet has a row and a column
pub rows_some : (t : Table) → Sound t → 1 ≤ t.rows
rows_some t sound = grind (arith, or_parts, nat_tests, sound.size)

pub columns_some : (t : Table) → Sound t → 1 ≤ t.columns
columns_some t sound = grind (arith, or_parts, nat_tests, sound.size)

-- a place along a side is on the sheet
pub border_row : (t : Table) → Sound t → (hand : Hand) (k : ℕ) → k < border_length t.rows t.columns hand → (border_place t.rows t.columns hand k).row < t.rows
border_row t sound West k h = omega (arith, rows_some t sound)
border_row t sound hand k h = omega (arith, rows_some t sound)

pub border_column : (t : Table) → Sound t → (hand : Hand) (k : ℕ) → k < border_length t.rows t.columns hand → (border_place t.rows t.columns hand k).column < t.columns
border_column t sound West k h = omega (arith, columns_some t sound)
border_column t sound hand k h = omega (arith, columns_some t sound)

-- ---- the neighbour to a hand, or none

pub west_none : (t : Table) (r c : ℕ) → c ≡ 0 → neighbour t r c West ≡ None
west_none t r c e = rw e refl

pub west_some : (t : Table) (r c m : ℕ) → c ≡ suc m → neighbour t r c West ≡ Some (record { row = r; column = m })
west_some t r c m e = rw e refl

pub east_none : (t : Table) (r c : ℕ) → t.columns ≤ c + 1 → neighbour t r c East ≡ None
east_none t r c h = rw le-ltb refl

pub east_some : (t : Table) (r c m : ℕ) → m < t.columns → c + 1 ≡ m → neighbour t r c East ≡ Some (record { row = r; column = m })
east_some t r c m h e = rw (e, lt-ltb) refl

pub south_none : (t : Table) (r c : ℕ) → r ≡ 0 → neighbour t r c South ≡ None
south_none t r c e = rw e refl

pub south_some : (t : Table) (r c m : ℕ) → r ≡ suc m → neighbour t r c South ≡ Some (record { row = m; column = c })
south_some t r c m e = rw e refl

pub north_none : (t : Table) (r c : ℕ) → t.rows ≤ r + 1 → neighbour t r c North ≡ None
north_none t r c h = rw le-ltb refl

pub north_some : (t : Table) (r c m : ℕ) → m < t.rows → r + 1 ≡ m → neighbour t r c North ≡ Some (record { row = m; column = c })
north_some t r c m h e = rw (e, lt-ltb) refl

-- ---- in a sound table: the neighbour is on the sheet, or the cell stands at that side

abbrev pub Stands : Table → ℕ → ℕ → Hand → Option Place → Type 0
Stands t r c hand (Some p) = (p.row < t.rows) × (p.column < t.columns)
Stands t r c hand None = GhostKept (side_at t hand) (cell_at t r c)

pub stands : (t : Table) → Sound t → (r c : ℕ) → r < t.rows → c < t.columns → (hand : Hand) → Stands t r c hand (neighbour t r c hand)
stands t sound r zero h k West = sound.ghosts West r h
stands t sound r (suc c) h k West = (h, omega arith)
stands t sound r c h k East =
    ⊎_elim (λ (l : c + 1 < t.columns). rw lt-ltb (h, l))
    (λ (l : t.columns ≤ c + 1). let last : t.columns - 1 ≡ c = omega arith in rw le-ltb (rw last at (sound.ghosts East r h))) (cases_lt (c + 1) t.columns)
stands t sound zero c h k South = sound.ghosts South c k
stands t sound (suc r) c h k South = (omega arith, k)
stands t sound r c h k North =
    ⊎_elim (λ (l : r + 1 < t.rows). rw lt-ltb (l, k))
    (λ (l : t.rows ≤ r + 1). let last : t.rows - 1 ≡ r = omega arith in rw le-ltb (rw last at (sound.ghosts North c k))) (cases_lt (r + 1) t.rows)
