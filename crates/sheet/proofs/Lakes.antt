-- The table of a lake is sound, and what is sound makes a lake.
use Rattle.std.proofs.Common.{◌≡◌, ℕ, zero, suc, ◌+◌, ◌*◌, ◌<◌, ◌≤◌, Bool, false, rules, vec_items, replicate, refl, arith}
use Rattle.std.proofs.lemmas.List.{length-map}
use Rattle.std.proofs.lemmas.Bool.{or_from}
use Rattle.std.proofs.lemmas.Bool.Decides.{nat_tests}
use Rattle.std.proofs.lemmas.Nat.{rows}
use Rattle.std.proofs.lemmas.List.Elements.{All-get_or, All-map}
use lib.LanesLaws.{map-replicate}
use Rattle.book.specs.declared.cell.Cell.{Cell}
use Rattle.book.specs.declared.side.Hand.{Hand}
use Rattle.book.specs.declared.side.Side.{Side}
use Rattle.book.specs.declared.side.Side.TheVariants.{Wall}
use Rattle.book.specs.Ranges.{outside, size_amiss}
use Rattle.book.specs.Sheets.{Table, no_cell, cell_at, side_at, some_below, some_hand, some_side, border_length, border_cell}
use Rattle.book.proofs.Sound.{Ranged, GhostKept, Sound}
use Rattle.book.proofs.Sums.{none_below, no_hand}
use Rattle.sheet.specs.declared.water.Water.{Water}
use Rattle.sheet.specs.declared.lake.Lake.{Lake}
use Rattle.sheet.specs.Waters.{cells_of}
use Rattle.sheet.specs.Ghosts.{ghost_amiss, sides_amiss}
use Rattle.sheet.specs.Tables.{lake_table}

-- ---- tests

pub within : (low high n : ℕ) → low ≤ n → n ≤ high → outside low high n ≡ false
within low high n a b = grind (arith, nat_tests)

pub none_from : (n : ℕ) (p : ℕ → Bool) → ((k : ℕ) → k < n → p k ≡ false) → some_below n p ≡ false
none_from zero p h = refl
none_from (suc n) p h = grind (arith, none_from n p)

pub hands_none : (p : Hand → Bool) → ((hand : Hand) → p hand ≡ false) → some_hand p ≡ false
hands_none p h = search (or_from, h)

-- ---- ghosts

ghost_kept : (s : Side) (k : Cell) → ghost_amiss s k ≡ false → GhostKept s k
ghost_kept Wall k e = tt
ghost_kept s k e = grind (arith, nat_tests)

pub ghost_fine : (s : Side) (k : Cell) → GhostKept s k → ghost_amiss s k ≡ false
ghost_fine Wall k g = refl
ghost_fine s k g = grind (arith, nat_tests)

safe_ghosts : (t : Table) → sides_amiss t ≡ false → (hand : Hand) (k : ℕ) → k < border_length t.rows t.columns hand → GhostKept (side_at t hand) (border_cell t hand k)
unfolding sides_amiss
safe_ghosts t e hand k h = ghost_kept _ _ (none_below _ _ (no_hand (λ side. some_side t side (λ r c. ghost_amiss (side_at t side) (cell_at t r c))) e hand) k h)

pub sound_safe : (t : Table) → Sound t → sides_amiss t ≡ false
unfolding sides_amiss
sound_safe t sound = hands_none _ (λ hand. none_from _ _ (λ k h. ghost_fine _ _ (sound.ghosts hand k h)))

-- ---- cells

pub water_ranged : (w : Water) → Ranged w.cell
water_ranged w = search rules

-- the cells of so much of the same water
pub cells_alike : (n : ℕ) (w : Water) (k : Cell) → w.cell ≡ k → cells_of (replicate n w) ≡ replicate n k
cells_alike n w k e = rw (map-replicate, e)

-- ---- the table

pub size_fine : (rows columns width : ℕ) → 1 ≤ rows → rows ≤ 64 → 1 ≤ columns → columns ≤ 64 → rows * columns ≤ 1024 → 10 ≤ width → width ≤ 100000 → size_amiss rows columns width ≡ false
size_fine rows columns width a b c d e f g = grind (arith, nat_tests)

pub lake_sound : (l : Lake) → Sound (lake_table l)
lake_sound l = record {
  size = size_fine l.rows l.columns l.width l.high.0 l.high.1 l.broad.0 l.broad.1 l.few l.spaced.0 l.spaced.1;
  sized = rw length-map l.full;
  four = l.four;
  ranged = λ r c p q. All-get_or Ranged (cells_of (vec_items l.cells)) (r * l.columns + c) no_cell (rw length-map (grind (arith, rows))) (search (rules, All-map, water_ranged));
  ghosts = safe_ghosts (lake_table l) l.safe;
}
