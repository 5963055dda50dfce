-- Thin water has no flow after every list of calls; with the ranges of a sound table, cells are kept.
use Rattle.std.proofs.Common.{◌≡◌, ℕ, ◌+◌, ◌*◌, ◌<◌, List, get_or, ℤ, pos, refl, arith}
use Rattle.std.specs.List.{range_with_len, All}
use Rattle.std.proofs.lemmas.List.Elements.{All-nil, All-replicate, All-set, All-map}
use Rattle.std.proofs.lemmas.Bool.{lt-ltb}
use Rattle.rules.specs.Friction.{LawfulFriction}
use Rattle.book.specs.declared.cell.Cell.{Cell}
use Rattle.book.specs.declared.call.Call.{Call}
use Rattle.book.specs.declared.call.Call.TheVariants.{Prepare, Lay, Open as Opening, Step, Rain, Soak}
use Rattle.book.specs.Numbers.{film, thinned}
use Rattle.book.specs.Step.{Rules}
use Rattle.book.specs.Sheets.{cell_at, no_cell}
use Rattle.book.specs.Calls.{Book, empty_book, at_rest, rained, soaked, accepted, book_after}
use Rattle.book.specs.Laws.{OnSheet, Kept}
use Rattle.book.proofs.Judged.{after_book}
use Rattle.book.proofs.Grids.{place_below}
use Rattle.book.proofs.Soundness.{sound_at, book_sound}

record Thin (k : Cell) : Type 0 where
  east : k.depth < film → k.east ≡ pos 0
  north : k.depth < film → k.north ≡ pos 0

thinned_none : (h : ℕ) (q : ℤ) → h < film → thinned h q ≡ pos 0
thinned_none h q l = rw lt-ltb

still_thin : (k : Cell) → k.east ≡ pos 0 → k.north ≡ pos 0 → Thin k
still_thin k e n = record { east = λ _. e; north = λ _. n }

module _ (rules : Rules) where
  abbrev AllThin : Book → Type 0
  AllThin b = All Thin b.table.cells

  accepted_thin : (b : Book) (x : Call) → AllThin b → AllThin (accepted rules b x).book
  accepted_thin b (Prepare rows columns width) h = All-replicate Thin (rows * columns) no_cell (still_thin no_cell refl refl)
  accepted_thin b (Lay row column bed depth) h = All-set Thin b.table.cells (row * b.table.columns + column) _ (still_thin _ refl refl) h
  accepted_thin b Opening h = All-map Thin at_rest b.table.cells (λ _ _ _. still_thin _ refl refl)
  accepted_thin b (Step rate) h = All-map Thin _ (range_with_len 0 (b.table.rows * b.table.columns)) (λ _ _ _. record { east = thinned_none _ _; north = thinned_none _ _ })
  accepted_thin b (Rain amount) h =
      All-map Thin (rained amount) b.table.cells (λ i d p. let t : Thin (get_or b.table.cells i d) = h i d p in record { east = λ l. t.east (omega arith); north = λ l. t.north (omega arith) })
  accepted_thin b (Soak amount) h = All-map Thin (soaked amount) b.table.cells (λ _ _ _. record { east = thinned_none _ _; north = thinned_none _ _ })
  accepted_thin b x h = h

  pub cells_kept : LawfulFriction rules.slowed → (calls : List Call) (r c : ℕ) → OnSheet (book_after rules calls).table r c → Kept (cell_at (book_after rules calls).table r c)
  cells_kept friction calls r c on =
      let b : Book = book_after rules calls in
      let s = sound_at b.stage b.table (book_sound rules friction calls) (omega arith) in
      let g = s.ranged r c on.0 on.1 in
      let t : Thin (cell_at b.table r c) = after_book rules AllThin (λ b x h _ _. accepted_thin b x h) empty_book calls (All-nil Thin) (r * b.table.columns + c) no_cell (omega (arith, place_below b.table.rows b.table.columns r c on.0 on.1, s.sized)) in
      record { bed = g.bed; depth = g.depth; slow_east = g.slow_east; slow_north = g.slow_north; thin_east = t.east; thin_north = t.north }
