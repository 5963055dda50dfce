-- What every list of calls keeps, under every flux rule and friction rule that keeps its laws.
use Rattle.std.specs.Prelude.{◌≡◌, ℕ, ◌+◌, ◌<◌, ◌≤◌, Bool, true, false, ◌⊎◌, List, [], ◌∷◌, pos, unsigned_abs}
use Rattle.rules.specs.Flux.{LawfulFlux}
use Rattle.rules.specs.Friction.{LawfulFriction}
use Rattle.book.specs.declared.cell.Cell.{Cell}
use Rattle.book.specs.declared.side.Hand.{Hand}
use Rattle.book.specs.declared.side.Side.{Side}
use Rattle.book.specs.declared.side.Side.TheVariants.{Wall, Open, Held, Fed}
use Rattle.book.specs.declared.account.Account.{Account}
use Rattle.book.specs.declared.account.Passed.{Passed}
use Rattle.book.specs.declared.call.Call.{Call}
use Rattle.book.specs.declared.call.Call.TheVariants.{Prepare, Lay, Open as Opening, Step, Rain, Soak, ChangeSide, AskCell, AskAccount, AskStanding, AskSlowestRate, Close}
use Rattle.book.specs.declared.reply.Reply.{Reply}
use Rattle.book.specs.declared.reply.Reply.TheVariants.{Done, Refused, CellIs, AccountIs, StandingIs, RateIs, ClosedWith}
use Rattle.book.specs.declared.turn.Turn.{Turn}
use Rattle.book.specs.Ranges.{max_depth, max_velocity, max_bed, max_rate}
use Rattle.book.specs.Numbers.{film, velocity}
use Rattle.book.specs.Step.{Rules}
use Rattle.book.specs.Sheets.{Table, Place, off_sheet, cell_at, side_at, standing, face, too_slow, leaving, arriving}
use Rattle.book.specs.Accounts.{passed_by}
use Rattle.book.specs.Refusals.{refusal_number}
use Rattle.book.specs.Calls.{Book, start, serving, closed, slowest_rate, Fault, faults, answer, after, book_after, replies_to}
use Rattle.book.specs.Turns.{turned_place, turned_table, turned_calls, turned_books, turned_replies}

-- a row and a column of the sheet
abbrev pub OnSheet : Table → ℕ → ℕ → Type 0
OnSheet t r c = (r < t.rows) × (c < t.columns)

-- the water has been poured: from opening on
abbrev pub Opened : Book → Type 0
Opened b = (b.stage ≡ serving) ⊎ (b.stage ≡ closed)

-- ---- cells in range

-- bed, depth and velocities in range, and no flow in thin water
pub record Kept (k : Cell) : Type 0 where
  pub bed : unsigned_abs k.bed ≤ max_bed
  pub depth : k.depth ≤ max_depth
  pub slow_east : unsigned_abs (velocity k.east k.depth) ≤ max_velocity
  pub slow_north : unsigned_abs (velocity k.north k.depth) ≤ max_velocity
  pub thin_east : k.depth < film → k.east ≡ pos 0
  pub thin_north : k.depth < film → k.north ≡ pos 0

-- ---- the account adds up

-- over all sides
abbrev pub all_in : Account → ℕ
all_in a = a.west.into + a.east.into + a.south.into + a.north.into

abbrev pub all_out : Account → ℕ
all_out a = a.west.out + a.east.out + a.south.out + a.north.out

-- standing + soak + out = poured + rain + in
abbrev pub Balanced : Book → Type 0
Balanced b = standing b.table + b.account.soak + all_out b.account ≡ b.account.poured + b.account.rain + all_in b.account

-- ---- still water

abbrev pub fed : Side → Bool
fed Wall = false
fed Open = false
fed (Held level) = false
fed (Fed depth speed) = true

-- no flow, every face with one depth on both sides, those at the edges too, and no side fed
pub record Still (t : Table) : Type 0 where
  pub east_still : (r c : ℕ) → OnSheet t r c → (cell_at t r c).east ≡ pos 0
  pub north_still : (r c : ℕ) → OnSheet t r c → (cell_at t r c).north ≡ pos 0
  pub level : (r c : ℕ) → OnSheet t r c → (hand : Hand) → (face t r c hand).left.depth ≡ (face t r c hand).right.depth
  pub unfed : (hand : Hand) → fed (side_at t hand) ≡ false

-- calls that leave still water as it is
abbrev pub step_or_question : Call → Bool
step_or_question (Prepare rows columns width) = false
step_or_question (Lay row column bed depth) = false
step_or_question Opening = false
step_or_question (Step rate) = true
step_or_question (Rain amount) = false
step_or_question (Soak amount) = false
step_or_question (ChangeSide side kind a b) = false
step_or_question (AskCell row column) = true
step_or_question AskAccount = true
step_or_question AskStanding = true
step_or_question AskSlowestRate = true
step_or_question Close = false

abbrev pub is_refusal : Reply → Bool
is_refusal Done = false
is_refusal (Refused why) = true
is_refusal (CellIs cell) = false
is_refusal (AccountIs account) = false
is_refusal (StandingIs amount) = false
is_refusal (RateIs rate) = false
is_refusal (ClosedWith account flux) = false

-- ---- sheets turned

-- the sheet has so many rows and columns, once there is one
abbrev pub OfSize : ℕ → ℕ → Book → Type 0
OfSize rows columns b = (b.stage ≡ start) ⊎ ((b.table.rows ≡ rows) × (b.table.columns ≡ columns))

-- ---- refusals

-- the faults come in the order of their numbers, so that of several the one with the smallest number is answered
abbrev pub InOrder : List Fault → Type 0
InOrder [] = Unit {0}
InOrder (x ∷ []) = Unit {0}
InOrder (x ∷ y ∷ zs) = (refusal_number x.why < refusal_number y.why) × InOrder (y ∷ zs)

-- ---- the slowest rate

-- the least that is not too slow, or past the greatest rate where none suits
pub record Slowest (t : Table) (d : ℕ) : Type 0 where
  pub suits : d ≤ max_rate → too_slow t d ≡ false
  pub least : (e : ℕ) → 1 ≤ e → e < d → too_slow t e ≡ true

-- ---- the laws

module _ (rules : Rules) where
  abbrev pub table_after : List Call → Table
  table_after calls = (book_after rules calls).table

  abbrev pub AcceptsStep : Book → ℕ → Type 0
  AcceptsStep b rate = (answer rules b (Step rate)).reply ≡ Done

  abbrev pub Refuses : Book → Call → Type 0
  Refuses b x = is_refusal (answer rules b x).reply ≡ true

  -- a list of steps, questions and refused calls
  abbrev pub Quiet : Book → List Call → Type 0
  Quiet b [] = Unit {0}
  Quiet b (x ∷ xs) = ((step_or_question x ≡ true) ⊎ Refuses b x) × Quiet (answer rules b x).book xs

  pub record WaterLaws : Type 0 where
    -- cells stay in range, and thin water has no flow
    pub cells_kept : (calls : List Call) (r c : ℕ) → OnSheet (table_after calls) r c → Kept (cell_at (table_after calls) r c)
    -- what stands is what was poured, rained and came in, less what was soaked away and went out
    pub balanced : (calls : List Call) → Opened (book_after rules calls) → Balanced (book_after rules calls)
    -- what leaves a cell over all its faces in a step is never more than it held
    pub never_overdrawn : (calls : List Call) (rate : ℕ) → AcceptsStep (book_after rules calls) rate → (r c : ℕ) → OnSheet (table_after calls) r c → leaving rules (table_after calls) rate r c ≤ (cell_at (table_after calls) r c).depth
    -- a step changes each depth by what arrives and by what leaves: new + left = old + arrived
    pub depths_exact : (calls : List Call) (rate : ℕ) → AcceptsStep (book_after rules calls) rate → (r c : ℕ) → OnSheet (table_after calls) r c → (cell_at (answer rules (book_after rules calls) (Step rate)).book.table r c).depth + leaving rules (table_after calls) rate r c ≡ (cell_at (table_after calls) r c).depth + arriving rules (table_after calls) rate r c
    -- nothing passes a wall
    pub walls_hold : (calls : List Call) (rate : ℕ) → (book_after rules calls).stage ≡ serving → (hand : Hand) → side_at (table_after calls) hand ≡ Wall → (p : Passed) → passed_by rules (table_after calls) rate hand p ≡ p
    -- the slowest rate is the least that is not too slow
    pub slowest_least : (t : Table) → Slowest t (slowest_rate t)
    -- a refused call changes nothing
    pub refusals_change_nothing : (calls : List Call) (x : Call) → Refuses (book_after rules calls) x → (answer rules (book_after rules calls) x).book ≡ book_after rules calls
    -- of the faults of a call, the one with the smallest number is answered
    pub smallest_first : (b : Book) (x : Call) → InOrder (faults rules b x)
    -- still water stays as it is
    pub still_stays : (calls quiet : List Call) → (book_after rules calls).stage ≡ serving → Still (table_after calls) → Quiet (book_after rules calls) quiet → after rules (book_after rules calls) quiet ≡ book_after rules calls
    -- a list of calls on a turned sheet comes to the turned book, and has the turned replies
    pub turned_books_alike : (τs : List Turn) (rows columns : ℕ) (calls : List Call) → OfSize rows columns (book_after rules calls) → book_after rules (turned_calls τs rows columns calls) ≡ turned_books τs (book_after rules calls)
    pub turned_replies_alike : (τs : List Turn) (rows columns : ℕ) (calls : List Call) → OfSize rows columns (book_after rules calls) → replies_to rules (turned_calls τs rows columns calls) ≡ turned_replies τs (replies_to rules calls)
    -- a place off the sheet turns to one off it
    pub off_stays_off : (τ : Turn) (t : Table) (p : Place) → off_sheet (turned_table τ t) (turned_place τ t.rows t.columns p).row (turned_place τ t.rows t.columns p).column ≡ off_sheet t p.row p.column

-- the laws hold under all rules that keep theirs
abbrev pub WaterLawsHold : Type 0
WaterLawsHold = (rules : Rules) → LawfulFlux rules.water rules.push → LawfulFriction rules.slowed → WaterLaws rules
