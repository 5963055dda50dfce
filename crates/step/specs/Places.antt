-- Places of the program as the water book has them.
use Rattle.std.specs.Prelude.{◌≡◌, ℕ, true, Some, None, Option}
use Rattle.book.specs.Sheets as book
use Rattle.sheet.specs.declared.lake.Lake.{Lake}
use Rattle.sheet.specs.Tables.{lake_table}
use Rattle.step.specs.declared.spot.Spot.{Spot}

-- the place in row r and column c, where the lake has one
abbrev pub Found : Lake → ℕ → ℕ → Option Spot → Type 0
Found lake r c (Some s) = (s.lake.now ≡ lake) × (s.row ≡ r) × (s.column ≡ c)
Found lake r c None = book.off_sheet (lake_table lake) r c ≡ true

abbrev pub placed : Option Spot → Option book.Place
placed (Some s) = Some (record { row = s.row; column = s.column })
placed None = None

-- a word of the book for a place of a sheet, at a spot
abbrev pub at_spot : {A : Type 0} → (book.Table → ℕ → ℕ → A) → Spot → A
at_spot f s = f (lake_table s.lake.now) s.row s.column
