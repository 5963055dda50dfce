-- The water book: it is fed the arguments of the calls and nothing else, keeps a table and an account of its own, and answers and refuses by these.
use Rattle.std.specs.Prelude.{ℕ, zero, suc, ◌+◌, ◌-◌, ◌*◌, min, Bool, true, false, cond, not, ◌&&◌, ◌||◌, List, [], ◌∷◌, map, ℤ, pos, ◌*ℤ◌, neg_ℤ, Some, None, ◌==◌, nat_lt, slice_set, unsigned_abs}
use Rattle.book.specs.declared.cell.Cell.{Cell}
use Rattle.book.specs.declared.side.Hand.{Hand}
use Rattle.book.specs.declared.side.Hand.TheVariants.{West, East, South, North}
use Rattle.book.specs.declared.side.Side.{Side}
use Rattle.book.specs.declared.side.Side.TheVariants.{Wall, Open, Held, Fed}
use Rattle.book.specs.declared.account.Account.{Account}
use Rattle.book.specs.declared.call.Call.{Call}
use Rattle.book.specs.declared.call.Call.TheVariants.{Prepare, Lay, Open as Opening, Step, Rain, Soak, ChangeSide, AskCell, AskAccount, AskStanding, AskSlowestRate, Close}
use Rattle.book.specs.declared.refusal.Refusal.{Refusal}
use Rattle.book.specs.declared.refusal.Refusal.TheVariants.{Size, Place as OffSheet, Bed, Depth, Side as BadSide, Rate, Amount, OutOfStage, Unlaid, TooSlow, Brim, FullAccount, NoRate}
use Rattle.book.specs.declared.reply.Reply.{Reply}
use Rattle.book.specs.declared.reply.Reply.TheVariants.{Done, Refused, CellIs, AccountIs, StandingIs, RateIs, ClosedWith}
use Rattle.book.specs.Ranges.{max_depth, max_velocity, max_bed, max_level, max_rate, outside, outsideℤ, size_amiss, bed_amiss, rate_amiss, amount_amiss}
use Rattle.book.specs.Numbers.{thinned, positive, velocity}
use Rattle.book.specs.Faces.{held_depth}
use Rattle.book.specs.Step.{Rules}
use Rattle.book.specs.Sheets.{Table, cell_at, side_number, off_sheet, four_walls, no_table, blank, with_cells, with_sides, sum_places, some_place, some_side, standing, too_slow, brim_passed, stepped}
use Rattle.book.specs.Accounts.{poured_only, rain_more, soak_more, account_after_step, full}

-- ---- cells that a call changes

-- a cell as it is laid
abbrev pub fresh : ℤ → ℕ → Cell
fresh bed depth = record { laid = true; bed = bed; depth = depth; east = pos 0; north = pos 0 }

-- a cell without its flows
abbrev pub at_rest : Cell → Cell
at_rest k = record { laid = k.laid; bed = k.bed; depth = k.depth; east = pos 0; north = pos 0 }

-- a cell with so much more water
abbrev pub rained : ℕ → Cell → Cell
rained n k = record { laid = k.laid; bed = k.bed; depth = k.depth + n; east = k.east; north = k.north }

-- a cell with so much less water, if it has that much; the velocities stay, but thin water has no flow
abbrev pub soaked : ℕ → Cell → Cell
soaked n k =
    let h : ℕ = k.depth - min k.depth n in
    record {
      laid = k.laid;
      bed = k.bed;
      depth = h;
      east = thinned h (pos h *ℤ velocity k.east k.depth);
      north = thinned h (pos h *ℤ velocity k.north k.depth);
    }

-- what rain brings to all cells together, and what soaking takes from them
abbrev pub rained_on : Table → ℕ → ℕ
rained_on t n = n * (t.rows * t.columns)

abbrev pub soaked_away : Table → ℕ → ℕ
soaked_away t n = sum_places t (λ r c. min (cell_at t r c).depth n)

-- ---- sides that a call names

-- the hand that a side's number names, where it is at most 3
abbrev pub hand_of : ℕ → Hand
hand_of zero = West
hand_of (suc zero) = East
hand_of (suc (suc zero)) = South
hand_of (suc (suc (suc n))) = North

-- the side that a kind and two values name, where they are not amiss
abbrev pub side_of : ℕ → ℤ → ℕ → Side
side_of zero a b = Wall
side_of (suc zero) a b = Open
side_of (suc (suc zero)) a b = Held a
side_of (suc (suc (suc n))) a b = Fed (positive a) b

-- a wall and an open side take no values
abbrev pub both_zero : ℤ → ℕ → Bool
both_zero a b = unsigned_abs a == 0 && b == 0

-- the kinds are 0 wall, 1 open, 2 held at level a, 3 fed with depth a at speed b; their values in range
abbrev pub side_amiss : ℕ → ℤ → ℕ → Bool
side_amiss zero a b = not (both_zero a b)
side_amiss (suc zero) a b = not (both_zero a b)
side_amiss (suc (suc zero)) a b = not (b == 0) || outsideℤ (neg_ℤ (pos max_bed)) (pos max_level) a
side_amiss (suc (suc (suc zero))) a b = outsideℤ (pos 1) (pos max_depth) a || outside 1 max_velocity b
side_amiss (suc (suc (suc (suc n)))) a b = true

-- a held level stands too high over a cell along the side
abbrev pub held_over : Table → Hand → Side → Bool
held_over t hand Wall = false
held_over t hand Open = false
held_over t hand (Held level) = some_side t hand (λ r c. nat_lt max_depth (held_depth level (cell_at t r c).bed))
held_over t hand (Fed depth speed) = false

-- ---- the slowest rate

-- the least rate from d on that is not too slow, or d + n if the first n are
abbrev pub least_rate : (ℕ → Bool) → ℕ → ℕ → ℕ
least_rate slow d zero = d
least_rate slow d (suc n) = cond (slow d) (least_rate slow (d + 1) n) d

-- past the greatest rate where none suits
abbrev pub slowest_rate : Table → ℕ
slowest_rate t = least_rate (too_slow t) 1 max_rate

-- ---- the book

-- before any sheet, a sheet in preparation, a basin in service, a closed one
pub data Stage : Type 0 where
  start preparing serving closed : Stage

-- only accepted calls change it
pub record Book : Type 0 where
  pub stage : Stage
  pub table : Table
  pub account : Account

-- the book after a call, and the reply to it
pub record Page : Type 0 where
  pub book : Book
  pub reply : Reply

-- the book before any call
abbrev pub empty_book : Book
empty_book = record { stage = start; table = no_table; account = poured_only 0 }

-- a call that changes the book
abbrev pub on_page : Stage → Table → Account → Reply → Page
on_page s t a r = record { book = record { stage = s; table = t; account = a }; reply = r }

-- a question or a refusal leaves the book
abbrev pub unchanged : Book → Reply → Page
unchanged b r = record { book = b; reply = r }

-- the stage that a call is for
abbrev pub stage_of : Call → Stage
stage_of (Prepare rows columns width) = start
stage_of (Lay row column bed depth) = preparing
stage_of Opening = preparing
stage_of (Step rate) = serving
stage_of (Rain amount) = serving
stage_of (Soak amount) = serving
stage_of (ChangeSide side kind a b) = serving
stage_of (AskCell row column) = serving
stage_of AskAccount = serving
stage_of AskStanding = serving
stage_of AskSlowestRate = serving
stage_of Close = serving

abbrev pub stage_number : Stage → ℕ
stage_number start = 0
stage_number preparing = 1
stage_number serving = 2
stage_number closed = 3

-- the book is at that stage
abbrev pub fits : Stage → Call → Bool
fits s x = stage_number s == stage_number (stage_of x)

-- ---- faults

-- a test, and the refusal that it brings where it is met
pub record Fault : Type 0 where
  pub there : Bool
  pub why : Refusal

abbrev pub fault : Bool → Refusal → Fault
fault there why = record { there = there; why = why }

-- refused for the first fault that is there; accepted if none is
abbrev pub judged : List Fault → Book → Page → Page
judged [] b p = p
judged (x ∷ xs) b p = cond x.there (unchanged b (Refused x.why)) (judged xs b p)

module _ (rules : Rules) where
  -- the faults of a call that fits the stage, in the order of their numbers
  abbrev pub faults : Book → Call → List Fault
  faults b (Prepare rows columns width) = fault (size_amiss rows columns width) Size ∷ []
  faults b (Lay row column bed depth) =
      fault (off_sheet b.table row column) OffSheet ∷ fault (bed_amiss bed) Bed ∷ fault (nat_lt max_depth depth) Depth ∷ []
  faults b Opening = fault (some_place b.table (λ r c. not (cell_at b.table r c).laid)) Unlaid ∷ []
  faults b (Step rate) =
      fault (rate_amiss rate) Rate
      ∷ fault (too_slow b.table rate) TooSlow
      ∷ fault (brim_passed rules b.table rate) Brim
      ∷ fault (full (account_after_step rules b.table rate b.account)) FullAccount ∷ []
  faults b (Rain amount) =
      fault (amount_amiss amount) Amount
      ∷ fault (some_place b.table (λ r c. nat_lt max_depth ((cell_at b.table r c).depth + amount))) Brim
      ∷ fault (full (rain_more b.account (rained_on b.table amount))) FullAccount ∷ []
  faults b (Soak amount) =
      fault (amount_amiss amount) Amount
      ∷ fault (full (soak_more b.account (soaked_away b.table amount))) FullAccount ∷ []
  faults b (ChangeSide side kind x y) =
      fault (nat_lt 3 side || side_amiss kind x y) BadSide
      ∷ fault (held_over b.table (hand_of side) (side_of kind x y)) Brim ∷ []
  faults b (AskCell row column) = []
  faults b AskAccount = []
  faults b AskStanding = []
  faults b AskSlowestRate = fault (nat_lt max_rate (slowest_rate b.table)) NoRate ∷ []
  faults b Close = []

  -- what a call with no fault makes of the book, and the reply
  abbrev pub accepted : Book → Call → Page
  accepted b (Prepare rows columns width) = on_page preparing (blank rows columns width) (poured_only 0) Done
  accepted b (Lay row column bed depth) =
      on_page preparing (with_cells b.table (slice_set b.table.cells (row * b.table.columns + column) (fresh bed depth))) b.account Done
  accepted b Opening =
      on_page serving (with_sides (with_cells b.table (map at_rest b.table.cells)) four_walls) (poured_only (standing b.table)) Done
  accepted b (Step rate) = on_page serving (stepped rules b.table rate) (account_after_step rules b.table rate b.account) Done
  accepted b (Rain amount) =
      on_page serving (with_cells b.table (map (rained amount) b.table.cells)) (rain_more b.account (rained_on b.table amount)) Done
  accepted b (Soak amount) =
      on_page serving (with_cells b.table (map (soaked amount) b.table.cells)) (soak_more b.account (soaked_away b.table amount)) Done
  accepted b (ChangeSide side kind x y) =
      on_page serving (with_sides b.table (slice_set b.table.sides (side_number (hand_of side)) (side_of kind x y))) b.account Done
  accepted b (AskCell row column) =
      unchanged b (CellIs (cond (off_sheet b.table row column) None (Some (cell_at b.table row column))))
  accepted b AskAccount = unchanged b (AccountIs b.account)
  accepted b AskStanding = unchanged b (StandingIs (standing b.table))
  accepted b AskSlowestRate = unchanged b (RateIs (slowest_rate b.table))
  accepted b Close = on_page closed b.table b.account (ClosedWith b.account rules.number)

  -- a call that does not fit the stage is refused for that, whatever its arguments
  abbrev pub answer : Book → Call → Page
  answer b x = judged (fault (not (fits b.stage x)) OutOfStage ∷ faults b x) b (accepted b x)

  -- ---- lists of calls

  -- the book after a list of calls, and the replies to them
  abbrev pub after : Book → List Call → Book
  after b [] = b
  after b (x ∷ xs) = after (answer b x).book xs

  abbrev pub replies : Book → List Call → List Reply
  replies b [] = []
  replies b (x ∷ xs) = (answer b x).reply ∷ replies (answer b x).book xs

  -- from the start, where a sheet is yet to be prepared
  abbrev pub book_after : List Call → Book
  book_after calls = after empty_book calls

  abbrev pub replies_to : List Call → List Reply
  replies_to calls = replies empty_book calls
