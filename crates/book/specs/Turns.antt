-- A sheet entered another way round: east with west, south with north, rows with columns, and any list of these.
use Rattle.std.specs.Prelude.{ℕ, ◌-◌, cond, List, [], ◌∷◌, map, neg_ℤ, Some, None, Option, nat_lt}
use Rattle.book.specs.declared.cell.Cell.{Cell}
use Rattle.book.specs.declared.side.Hand.{Hand}
use Rattle.book.specs.declared.side.Hand.TheVariants.{West, East, South, North}
use Rattle.book.specs.declared.account.Account.{Account}
use Rattle.book.specs.declared.call.Call.{Call}
use Rattle.book.specs.declared.call.Call.TheVariants.{Prepare, Lay, Open as Opening, Step, Rain, Soak, ChangeSide, AskCell, AskAccount, AskStanding, AskSlowestRate, Close}
use Rattle.book.specs.declared.reply.Reply.{Reply}
use Rattle.book.specs.declared.reply.Reply.TheVariants.{Done, Refused, CellIs, AccountIs, StandingIs, RateIs, ClosedWith}
use Rattle.book.specs.declared.turn.Turn.{Turn}
use Rattle.book.specs.declared.turn.Turn.TheVariants.{EastWest, SouthNorth, RowsColumns}
use Rattle.book.specs.Sheets.{Table, Place, grid, cell_at, side_at, side_number}
use Rattle.book.specs.Calls.{Book, hand_of}

-- ---- places and hands

-- the k-th of n from the other end; past the end it stays, so that a place off the sheet turns to one off it
abbrev pub mirrored : ℕ → ℕ → ℕ
mirrored n k = cond (nat_lt k n) (n - 1 - k) k

-- how many rows and columns the turned sheet has
abbrev pub turned_rows : Turn → ℕ → ℕ → ℕ
turned_rows EastWest rows columns = rows
turned_rows SouthNorth rows columns = rows
turned_rows RowsColumns rows columns = columns

abbrev pub turned_columns : Turn → ℕ → ℕ → ℕ
turned_columns EastWest rows columns = columns
turned_columns SouthNorth rows columns = columns
turned_columns RowsColumns rows columns = rows

-- a place on a sheet of so many rows and columns, and the place on the turned sheet
abbrev pub turned_place : Turn → ℕ → ℕ → Place → Place
turned_place EastWest rows columns p = record { row = p.row; column = mirrored columns p.column }
turned_place SouthNorth rows columns p = record { row = mirrored rows p.row; column = p.column }
turned_place RowsColumns rows columns p = record { row = p.column; column = p.row }

-- each turn undoes itself: the hand that comes to a hand is also the one that it goes to
abbrev pub turned_hand : Turn → Hand → Hand
turned_hand EastWest West = East
turned_hand EastWest East = West
turned_hand EastWest South = South
turned_hand EastWest North = North
turned_hand SouthNorth West = West
turned_hand SouthNorth East = East
turned_hand SouthNorth South = North
turned_hand SouthNorth North = South
turned_hand RowsColumns West = South
turned_hand RowsColumns East = North
turned_hand RowsColumns South = West
turned_hand RowsColumns North = East

-- ---- cells, tables and accounts

-- the flows turn with their signs
abbrev pub turned_cell : Turn → Cell → Cell
turned_cell EastWest k = record { laid = k.laid; bed = k.bed; depth = k.depth; east = neg_ℤ k.east; north = k.north }
turned_cell SouthNorth k = record { laid = k.laid; bed = k.bed; depth = k.depth; east = k.east; north = neg_ℤ k.north }
turned_cell RowsColumns k = record { laid = k.laid; bed = k.bed; depth = k.depth; east = k.north; north = k.east }

-- the cell that comes to a place of the turned sheet is the one at the place turned back, and turning back is turning
abbrev pub turned_table : Turn → Table → Table
turned_table τ t =
    let rows : ℕ = turned_rows τ t.rows t.columns in
    let columns : ℕ = turned_columns τ t.rows t.columns in
    record {
      rows = rows;
      columns = columns;
      width = t.width;
      cells = grid rows columns (λ r c. let p : Place = turned_place τ rows columns (record { row = r; column = c }) in turned_cell τ (cell_at t p.row p.column));
      sides = side_at t (turned_hand τ West) ∷ side_at t (turned_hand τ East) ∷ side_at t (turned_hand τ South) ∷ side_at t (turned_hand τ North) ∷ [];
    }

-- the counts of the sides go along
abbrev pub turned_account : Turn → Account → Account
turned_account EastWest a = record { poured = a.poured; rain = a.rain; soak = a.soak; west = a.east; east = a.west; south = a.south; north = a.north }
turned_account SouthNorth a = record { poured = a.poured; rain = a.rain; soak = a.soak; west = a.west; east = a.east; south = a.north; north = a.south }
turned_account RowsColumns a = record { poured = a.poured; rain = a.rain; soak = a.soak; west = a.south; east = a.north; south = a.west; north = a.east }

-- ---- calls, replies and books

-- the number of a side; past 3 it names none, and stays
abbrev pub turned_number : Turn → ℕ → ℕ
turned_number τ n = cond (nat_lt 3 n) n (side_number (turned_hand τ (hand_of n)))

-- a call on a sheet of so many rows and columns
module _ (τ : Turn) (rows columns : ℕ) where
  abbrev pub turned_call : Call → Call
  turned_call (Prepare r c width) = Prepare (turned_rows τ r c) (turned_columns τ r c) width
  turned_call (Lay row column bed depth) =
      let p : Place = turned_place τ rows columns (record { row = row; column = column }) in
      Lay p.row p.column bed depth
  turned_call Opening = Opening
  turned_call (Step rate) = Step rate
  turned_call (Rain amount) = Rain amount
  turned_call (Soak amount) = Soak amount
  turned_call (ChangeSide side kind a b) = ChangeSide (turned_number τ side) kind a b
  turned_call (AskCell row column) =
      let p : Place = turned_place τ rows columns (record { row = row; column = column }) in
      AskCell p.row p.column
  turned_call AskAccount = AskAccount
  turned_call AskStanding = AskStanding
  turned_call AskSlowestRate = AskSlowestRate
  turned_call Close = Close

-- a cell that was asked for, absent where it was absent
abbrev pub turned_asked : Turn → Option Cell → Option Cell
turned_asked τ (Some k) = Some (turned_cell τ k)
turned_asked τ None = None

-- refusals, sums and rates stay
abbrev pub turned_reply : Turn → Reply → Reply
turned_reply τ Done = Done
turned_reply τ (Refused why) = Refused why
turned_reply τ (CellIs k) = CellIs (turned_asked τ k)
turned_reply τ (AccountIs a) = AccountIs (turned_account τ a)
turned_reply τ (StandingIs n) = StandingIs n
turned_reply τ (RateIs n) = RateIs n
turned_reply τ (ClosedWith a flux) = ClosedWith (turned_account τ a) flux

abbrev pub turned_book : Turn → Book → Book
turned_book τ b = record { stage = b.stage; table = turned_table τ b.table; account = turned_account τ b.account }

-- ---- several turns, one after the other

-- each on the sheet as the ones before it left it
abbrev pub turned_calls : List Turn → ℕ → ℕ → List Call → List Call
turned_calls [] rows columns calls = calls
turned_calls (τ ∷ τs) rows columns calls =
    turned_calls τs (turned_rows τ rows columns) (turned_columns τ rows columns) (map (turned_call τ rows columns) calls)

abbrev pub turned_books : List Turn → Book → Book
turned_books [] b = b
turned_books (τ ∷ τs) b = turned_books τs (turned_book τ b)

abbrev pub turned_replies : List Turn → List Reply → List Reply
turned_replies [] rs = rs
turned_replies (τ ∷ τs) rs = turned_replies τs (map (turned_reply τ) rs)
