-- The cells of a lake as the water book has them.
use Rattle.std.specs.Prelude.{ℕ, List, map}
use Rattle.book.specs.declared.cell.Cell.{Cell}
use Rattle.book.specs.declared.side.Side.{Side}
use Rattle.book.specs.Sheets.{Table}
use Rattle.sheet.specs.declared.water.Water.{Water}

abbrev pub cell_of : Water → Cell
cell_of w = w.cell

abbrev pub cells_of : List Water → List Cell
cells_of ws = map cell_of ws

abbrev pub table_with : ℕ → ℕ → ℕ → List Water → List Side → Table
table_with rows columns width ws sides = record { rows = rows; columns = columns; width = width; cells = cells_of ws; sides = sides }
