-- Sides whose ghost cells are in range.
use Rattle.std.specs.Prelude.{Bool, false, ◌||◌, nat_lt}
use Rattle.book.specs.declared.cell.Cell.{Cell}
use Rattle.book.specs.declared.side.Side.{Side}
use Rattle.book.specs.declared.side.Side.TheVariants.{Wall, Open, Held, Fed}
use Rattle.book.specs.Ranges.{max_depth, max_velocity, outside}
use Rattle.book.specs.Faces.{held_depth}
use Rattle.book.specs.Sheets.{Table, cell_at, side_at, some_hand, some_side}

-- the ghost that a side makes of a cell is too deep or too fast
abbrev pub ghost_amiss : Side → Cell → Bool
ghost_amiss Wall k = false
ghost_amiss Open k = false
ghost_amiss (Held level) k = nat_lt max_depth (held_depth level k.bed)
ghost_amiss (Fed depth speed) k = outside 1 max_depth depth || nat_lt max_velocity speed

-- the same of some cell along some side
unfoldable pub sides_amiss : Table → Bool
sides_amiss t = some_hand (λ hand. some_side t hand (λ r c. ghost_amiss (side_at t hand) (cell_at t r c)))
