-- The cells of a sheet, row by row: made by a function, or changed all alike.
use Rattle.std.proofs.Common.{◌≡◌, ℕ, zero, suc, ◌+◌, ◌*◌, ◌/◌, ◌%◌, ◌<◌, List, map, length, get_or, sym, ap, ◌∙◌, ap₂, arith}
use Rattle.std.proofs.lemmas.Nat.{mul-add-lt, div-mul-add, mod-mul-add, div_below, mod_below, div-add-mod'}
use Rattle.std.proofs.lemmas.List.FromFn.{length-map-range_with_len, get_or-map-range_with_len, fill_by_all}
use Rattle.std.proofs.lemmas.List.{get_or-map}
use Rattle.book.specs.declared.cell.Cell.{Cell}
use Rattle.book.specs.Sheets.{no_cell, grid}

pub place_below : (rows columns r c : ℕ) → r < rows → c < columns → r * columns + c < rows * columns
place_below rows columns r c h k = omega (arith, mul-add-lt r columns c rows h k)

pub length_grid : (rows columns : ℕ) (f : ℕ → ℕ → Cell) → length (grid rows columns f) ≡ rows * columns
length_grid rows columns f = length-map-range_with_len (λ k. f (k / columns) (k % columns)) 0 (rows * columns)

pub grid_at : (rows columns : ℕ) (f : ℕ → ℕ → Cell) (r c : ℕ) → r < rows → c < columns → get_or (grid rows columns f) (r * columns + c) no_cell ≡ f r c
grid_at rows columns f r c h k =
    get_or-map-range_with_len (λ j. f (j / columns) (j % columns)) 0 (rows * columns) (r * columns + c) (r * columns + c) no_cell (place_below rows columns r c h k) (omega arith)
    ∙ ap₂ f (div-mul-add r columns c k) (mod-mul-add r columns c k)

some_columns : (rows columns k : ℕ) → k < rows * columns → 0 < columns
some_columns rows zero k h = absurd (omega arith)
some_columns rows (suc n) k h = omega arith

-- a list that has at each place what f has is the grid of f
pub grid_from : (rows columns : ℕ) (xs : List Cell) (f : ℕ → ℕ → Cell) → length xs ≡ rows * columns →
    ((r c : ℕ) → r < rows → c < columns → get_or xs (r * columns + c) no_cell ≡ f r c) → xs ≡ grid rows columns f
grid_from rows columns xs f len h =
    fill_by_all (λ k. f (k / columns) (k % columns)) xs (rows * columns) no_cell len (λ k l.
    let p : 0 < columns = some_columns rows columns k l in
    ap (λ j. get_or xs j no_cell) (sym (div-add-mod' k columns)) ∙ h (k / columns) (k % columns) (div_below k columns rows p l) (mod_below k columns p))

pub grid_same : (rows columns : ℕ) (f g : ℕ → ℕ → Cell) → ((r c : ℕ) → r < rows → c < columns → f r c ≡ g r c) → grid rows columns f ≡ grid rows columns g
grid_same rows columns f g h = grid_from rows columns _ g (length_grid rows columns f) (λ r c k l. grid_at rows columns f r c k l ∙ h r c k l)

pub map_at : (rows columns : ℕ) (cells : List Cell) (f : Cell → Cell) (r c : ℕ) → length cells ≡ rows * columns → r < rows → c < columns → get_or (map f cells) (r * columns + c) no_cell ≡ f (get_or cells (r * columns + c) no_cell)
map_at rows columns cells f r c e p q = get_or-map f cells (r * columns + c) no_cell no_cell (omega (arith, place_below rows columns r c p q))
