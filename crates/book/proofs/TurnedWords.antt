-- Accounts, cells by themselves, places and numbers of sides, turned.
use Rattle.std.proofs.Common.{◌≡◌, ℕ, ◌-◌, ◌*◌, ◌<◌, min, false, ◌||◌, ltb, leb, ℤ, pos, ◌*ℤ◌, neg_ℤ, refl, mul_comm, arith}
use Rattle.std.proofs.lemmas.Bool.{leb-false, or_parts}
use Rattle.std.proofs.lemmas.Bool.Decides.{nat_tests}
use Rattle.book.specs.declared.cell.Cell.{Cell}
use Rattle.book.specs.declared.account.Account.{Account}
use Rattle.book.specs.declared.turn.Turn.{Turn}
use Rattle.book.specs.declared.turn.Turn.TheVariants.{EastWest, SouthNorth, RowsColumns}
use Rattle.book.specs.Ranges.{outside, size_amiss}
use Rattle.book.specs.Numbers.{thinned, velocity}
use Rattle.book.specs.Sheets.{Table, off_sheet}
use Rattle.book.specs.Accounts.{full_passed, full, poured_only, rain_more, soak_more}
use Rattle.book.specs.Calls.{fresh, at_rest, rained, soaked, hand_of}
use Rattle.book.specs.Turns.{mirrored, turned_rows, turned_columns, turned_hand, turned_cell, turned_table, turned_account, turned_number}
use Rattle.rules.specs.Ints.{mul_neg}
use Rattle.book.proofs.Numbers.{velocity_neg, thinned_neg}
use Rattle.std.proofs.Math.Bool.{or_comm}
use Rattle.book.proofs.Neighbours.{hand_there, number_below}
use Rattle.book.proofs.TurnedTables.{sent}

-- ---- accounts

pub full_turned : (τ : Turn) (a : Account) → full (turned_account τ a) ≡ full a
full_turned EastWest a = rw (or_comm (full_passed a.east) (full_passed a.west))
full_turned SouthNorth a = rw (or_comm (full_passed a.north) (full_passed a.south))
full_turned RowsColumns a = rw (or_comm (full_passed a.south || full_passed a.north) (full_passed a.west || full_passed a.east))

pub poured_turned : (τ : Turn) (n : ℕ) → poured_only n ≡ turned_account τ (poured_only n)
poured_turned EastWest n = refl
poured_turned τ n = refl

pub rain_turned : (τ : Turn) (a : Account) (n : ℕ) → rain_more (turned_account τ a) n ≡ turned_account τ (rain_more a n)
rain_turned EastWest a n = refl
rain_turned τ a n = refl

pub soak_turned : (τ : Turn) (a : Account) (n : ℕ) → soak_more (turned_account τ a) n ≡ turned_account τ (soak_more a n)
soak_turned EastWest a n = refl
soak_turned τ a n = refl

-- ---- cells, each by itself

pub fresh_turned : (τ : Turn) (bed : ℤ) (depth : ℕ) → fresh bed depth ≡ turned_cell τ (fresh bed depth)
fresh_turned EastWest bed depth = refl
fresh_turned τ bed depth = refl

pub rest_turned : (τ : Turn) (k : Cell) → at_rest (turned_cell τ k) ≡ turned_cell τ (at_rest k)
rest_turned EastWest k = refl
rest_turned τ k = refl

pub rained_turned : (τ : Turn) (n : ℕ) (k : Cell) → rained n (turned_cell τ k) ≡ turned_cell τ (rained n k)
rained_turned EastWest n k = refl
rained_turned τ n k = refl

soaked_flow : (h d : ℕ) (q : ℤ) → thinned h (pos h *ℤ velocity (neg_ℤ q) d) ≡ neg_ℤ (thinned h (pos h *ℤ velocity q d))
soaked_flow h d q = thinned_neg h _ _ (λ _. rw (velocity_neg, mul_neg))

pub soaked_turned : (τ : Turn) (n : ℕ) (k : Cell) → soaked n (turned_cell τ k) ≡ turned_cell τ (soaked n k)
soaked_turned EastWest n k = rw (soaked_flow (k.depth - min k.depth n) k.depth k.east)
soaked_turned SouthNorth n k = rw (soaked_flow (k.depth - min k.depth n) k.depth k.north)
soaked_turned RowsColumns n k = refl

-- ---- what a call names

pub size_turned : (τ : Turn) (rows columns width : ℕ) → size_amiss (turned_rows τ rows columns) (turned_columns τ rows columns) width ≡ size_amiss rows columns width
size_turned RowsColumns rows columns width = rw (or_comm (outside 1 64 columns) (outside 1 64 rows), mul_comm columns rows)
size_turned τ rows columns width = refl

pub product_turned : (τ : Turn) (rows columns : ℕ) → turned_rows τ rows columns * turned_columns τ rows columns ≡ rows * columns
product_turned RowsColumns rows columns = mul_comm columns rows
product_turned τ rows columns = refl

leb_mirrored : (n k : ℕ) → leb n (mirrored n k) ≡ leb n k
leb_mirrored n k = grind (arith, nat_tests)

pub off_turned : (τ : Turn) (t : Table) (r c : ℕ) → off_sheet (turned_table τ t) (sent τ t r c).row (sent τ t r c).column ≡ off_sheet t r c
off_turned EastWest t r c = rw (leb_mirrored t.columns c)
off_turned SouthNorth t r c = rw (leb_mirrored t.rows r)
off_turned RowsColumns t r c = or_comm (leb t.columns c) (leb t.rows r)

pub on_row : (t : Table) (r c : ℕ) → off_sheet t r c ≡ false → r < t.rows
on_row t r c e = leb-false t.rows r (or_parts (leb t.rows r) (leb t.columns c) e).0

pub on_column : (t : Table) (r c : ℕ) → off_sheet t r c ≡ false → c < t.columns
on_column t r c e = leb-false t.columns c (or_parts (leb t.rows r) (leb t.columns c) e).1

-- a number that names no hand stays one, and the others name the turned hand
pub number_turned : (τ : Turn) (n : ℕ) → ltb 3 (turned_number τ n) ≡ ltb 3 n
number_turned τ n = grind (arith, nat_tests, number_below (turned_hand τ (hand_of n)))

pub hand_turned : (τ : Turn) (n : ℕ) → ltb 3 n ≡ false → hand_of (turned_number τ n) ≡ turned_hand τ (hand_of n)
hand_turned τ n e = rw (e, hand_there)
