-- A sound table: its shape, its cells in range, and the ghosts beyond its sides in range. Every list of calls leaves one, and the faces of one are in the ranges of the flux rules.
use Rattle.std.proofs.Common.{◌≡◌, ℕ, ◌*◌, ◌<◌, ◌≤◌, false, length, pos, nat_abs}
use Rattle.book.specs.declared.cell.Cell.{Cell}
use Rattle.book.specs.declared.side.Hand.{Hand}
use Rattle.book.specs.declared.side.Side.{Side}
use Rattle.book.specs.declared.side.Side.TheVariants.{Wall, Open, Held, Fed}
use Rattle.book.specs.Ranges.{max_depth, max_velocity, max_bed, size_amiss}
use Rattle.book.specs.Numbers.{velocity}
use Rattle.rules.specs.Side.{Facing}
use Rattle.book.specs.Faces.{Face, held_depth}
use Rattle.book.specs.Sheets.{Table, cell_at, side_at, border_length, border_cell, four_walls, no_table}
use Rattle.book.specs.Calls.{Book, Stage, start, preparing, serving, closed}

-- a cell in range: bed, depth and velocities, and no flow over no water
pub record Ranged (k : Cell) : Type 0 where
  pub bed : nat_abs k.bed ≤ max_bed
  pub depth : k.depth ≤ max_depth
  pub slow_east : nat_abs (velocity k.east k.depth) ≤ max_velocity
  pub slow_north : nat_abs (velocity k.north k.depth) ≤ max_velocity
  pub dry_east : k.depth ≡ 0 → k.east ≡ pos 0
  pub dry_north : k.depth ≡ 0 → k.north ≡ pos 0

-- the ghost that a side makes of a cell has a depth and a speed in range
abbrev pub GhostKept : Side → Cell → Type 0
GhostKept Wall k = Unit {0}
GhostKept Open k = Unit {0}
GhostKept (Held level) k = held_depth level k.bed ≤ max_depth
GhostKept (Fed depth speed) k = (1 ≤ depth) × (depth ≤ max_depth) × (speed ≤ max_velocity)

-- a prepared sheet
pub record Sound (t : Table) : Type 0 where
  pub size : size_amiss t.rows t.columns t.width ≡ false
  pub sized : length t.cells ≡ t.rows * t.columns
  pub four : length t.sides ≡ 4
  pub ranged : (r c : ℕ) → r < t.rows → c < t.columns → Ranged (cell_at t r c)
  pub ghosts : (hand : Hand) (k : ℕ) → k < border_length t.rows t.columns hand → GhostKept (side_at t hand) (border_cell t hand k)

-- the table at each stage: none, one with walls, any
abbrev pub SoundAt : Stage → Table → Type 0
SoundAt start t = t ≡ no_table
SoundAt preparing t = Sound t × (t.sides ≡ four_walls)
SoundAt serving t = Sound t
SoundAt closed t = Sound t

abbrev pub SoundBook : Book → Type 0
SoundBook b = SoundAt b.stage b.table

-- both sides are in the ranges in which a flux rule answers
pub record FacingBoth (f : Face) : Type 0 where
  pub left : Facing f.left.depth f.left.normal
  pub right : Facing f.right.depth f.right.normal
