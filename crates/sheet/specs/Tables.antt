-- A sheet as the water book has it.
use Rattle.std.specs.Prelude.{vec_items}
use Rattle.book.specs.Sheets.{Table}
use Rattle.sheet.specs.declared.lake.Lake.{Lake}
use Rattle.sheet.specs.declared.sheet.Sheet.{Sheet}
use Rattle.sheet.specs.Waters.{table_with}

abbrev pub lake_table : Lake → Table
lake_table l = table_with l.rows l.columns l.width (vec_items l.cells) l.sides

abbrev pub table_of : Sheet → Table
table_of s = lake_table s.lake
