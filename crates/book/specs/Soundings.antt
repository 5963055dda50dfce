-- Soundings: numbers worked out by hand, of the named rules and of the book's answers to short lists of calls.
use Rattle.std.specs.Prelude.{◌≡◌, ℕ, true, List, [], ◌∷◌, ℤ, pos, neg_ℤ, Some, None}
use Rattle.rules.specs.Root.{root_of}
use Rattle.rules.specs.Rusanov.{rusanov_water, rusanov_push}
use Rattle.rules.specs.Hll.{hll_water, hll_push}
use Rattle.rules.specs.BareBed.{bare_slowed}
use Rattle.rules.specs.Weed.{weed_slowed}
use Rattle.book.specs.declared.cell.Cell.{Cell}
use Rattle.book.specs.declared.side.Hand.{Hand}
use Rattle.book.specs.declared.side.Hand.TheVariants.{West, East, South, North}
use Rattle.book.specs.declared.side.Side.TheVariants.{Wall, Open, Held, Fed}
use Rattle.book.specs.declared.account.Account.{Account}
use Rattle.book.specs.declared.call.Call.{Call}
use Rattle.book.specs.declared.call.Call.TheVariants.{Prepare, Lay, Open as Opening, Step, Rain, ChangeSide, AskCell, AskAccount, AskStanding, AskSlowestRate, Close}
use Rattle.book.specs.declared.refusal.Refusal.TheVariants.{Place as OffSheet, OutOfStage, Unlaid, TooSlow}
use Rattle.book.specs.declared.reply.Reply.{Reply}
use Rattle.book.specs.declared.reply.Reply.TheVariants.{Done, Refused, CellIs, AccountIs, StandingIs, RateIs, ClosedWith}
use Rattle.book.specs.Faces.{FaceSide, Face}
use Rattle.book.specs.Step.{Rules, rules_of, cell_after}
use Rattle.book.specs.Sheets.{Table, new_cell}
use Rattle.book.specs.Accounts.{passed_by, nothing_passed, poured_only, rain_more}
use Rattle.book.specs.Calls.{book_after, replies_to, side_of, soaked}
use Rattle.book.specs.Laws.{Still}

-- the flux of Rusanov over a bare bed, and over one without friction
abbrev pub rusanov_over : ℕ → Rules
rusanov_over c = rules_of 1 rusanov_water rusanov_push (bare_slowed c)

abbrev pub smooth : Rules
smooth = rusanov_over 0

-- friction of a bare bed of coefficient 1 on a flow q, at speed 100, depth 1000 and rate 20
abbrev pub bare : ℤ → ℤ
bare q = bare_slowed 1000 q 100 1000 20

-- a laid cell with a flow to the east, and the reply that has it
abbrev pub wet : ℤ → ℕ → ℤ → Cell
wet bed depth east = record { laid = true; bed = bed; depth = depth; east = east; north = pos 0 }

abbrev pub here : ℤ → ℕ → ℤ → Reply
here bed depth east = CellIs (Some (wet bed depth east))

-- one cell of a width, or one row of two of 1000 mm, opened; the first bed is 0
abbrev pub one_cell : ℕ → ℕ → List Call → List Call
one_cell width depth then = Prepare 1 1 width ∷ Lay 0 0 (pos 0) depth ∷ Opening ∷ then

abbrev pub two_cells : ℕ → ℤ → ℕ → List Call → List Call
two_cells depth bed depth' then = Prepare 1 2 1000 ∷ Lay 0 0 (pos 0) depth ∷ Lay 0 1 bed depth' ∷ Opening ∷ then

-- a step at the given rate on one row of two cells with level beds, and both cells after it
abbrev pub dam_break : ℕ → ℕ → ℕ → List Reply
dam_break depth depth' rate = replies_to smooth (two_cells depth (pos 0) depth' (Step rate ∷ AskCell 0 0 ∷ AskCell 0 1 ∷ []))

-- an account in which so much was poured, so much came in from the west and so much went out to the east
abbrev pub eastward : ℕ → ℕ → ℕ → Account
eastward poured into out =
    record { poured = poured; rain = 0; soak = 0; west = record { into = into; out = 0 }; east = record { into = 0; out = out }; south = nothing_passed; north = nothing_passed }

-- the same from the south to the north
abbrev pub northward : ℕ → ℕ → ℕ → Account
northward poured into out =
    record { poured = poured; rain = 0; soak = 0; west = nothing_passed; east = nothing_passed; south = record { into = into; out = 0 }; north = record { into = 0; out = out } }

pub record Soundings : Type 0 where
  pub roots : (root_of 0 ≡ 0) × (root_of 1 ≡ 10) × (root_of 500 ≡ 222) × (root_of 1000 ≡ 314) × (root_of 2000000 ≡ 14008)
  -- a level surface over a step of the bed is still; its slowest rate is 2, and a step at rate 1 is refused
  pub pair_still : Still (book_after smooth (two_cells 1000 (pos 500) 500 [])).table
  pub pair_rates :
      replies_to smooth (two_cells 1000 (pos 500) 500 (AskSlowestRate ∷ Step 1 ∷ []))
      ≡ Done ∷ Done ∷ Done ∷ Done ∷ RateIs 2 ∷ Refused TooSlow ∷ []
  -- a dam breaks to the east; in a step so short that the new water is thin; and to the west
  pub dam_east : dam_break 1000 0 2 ≡ Done ∷ Done ∷ Done ∷ Done ∷ Done ∷ here (pos 0) 922 (pos 12262) ∷ here (pos 0) 78 (pos 12262) ∷ []
  pub dam_thin : dam_break 1000 0 20 ≡ Done ∷ Done ∷ Done ∷ Done ∷ Done ∷ here (pos 0) 993 (pos 1226) ∷ here (pos 0) 7 (pos 0) ∷ []
  pub dam_west : dam_break 0 1000 2 ≡ Done ∷ Done ∷ Done ∷ Done ∷ Done ∷ here (pos 0) 78 (neg_ℤ (pos 12262)) ∷ here (pos 0) 922 (neg_ℤ (pos 12262)) ∷ []
  -- water and push into a dry right, from a depth of 1000 at 400 and at 100
  pub rusanov_400 : (rusanov_water 1000 (pos 400) 0 (pos 0) ≡ pos 557000) × (rusanov_push 1000 (pos 400) 0 (pos 0) ≡ pos 4946500000)
  pub hll_400 : (hll_water 1000 (pos 400) 0 (pos 0) ≡ pos 400000) × (hll_push 1000 (pos 400) 0 (pos 0) ≡ pos 4181000000)
  pub hll_100 : (hll_water 1000 (pos 100) 0 (pos 0) ≡ pos 207000) × (hll_push 1000 (pos 100) 0 (pos 0) ≡ pos 1060657300)
  -- a bare bed, weed of strength 4000 over it, and the flow reversed
  pub friction : (bare (pos 10000) ≡ pos 9411) × (weed_slowed 4000 (bare (pos 10000)) 20 ≡ pos 9211) × (bare (neg_ℤ (pos 10000)) ≡ neg_ℤ (pos 9411))
  pub soaking : soaked 400 (wet (pos 0) 1000 (neg_ℤ (pos 3050))) ≡ wet (pos 0) 600 (neg_ℤ (pos 1800))
  -- the east side is held at level 0
  pub held_low :
      replies_to smooth (one_cell 1000 1000 (ChangeSide 1 2 (pos 0) 0 ∷ Step 2 ∷ AskCell 0 0 ∷ AskAccount ∷ []))
      ≡ Done ∷ Done ∷ Done ∷ Done ∷ Done ∷ here (pos 0) 922 (pos 12262) ∷ AccountIs (eastward 1000 0 78) ∷ []

-- ---- further soundings: stages, sides that are fed or held, flows in both directions

-- a face with the same water on both sides
abbrev pub both_sides : ℕ → ℤ → ℤ → Face
both_sides depth normal along = let side : FaceSide = record { depth = depth; normal = normal; along = along } in record { left = side; right = side }

-- the faces of a cell in a stream to the north-east, with dry land to its north
abbrev pub stream : Hand → Face
stream West = both_sides 1000 (pos 7) (pos 400)
stream East = both_sides 1000 (pos 7) (pos 400)
stream South = both_sides 1000 (pos 400) (pos 7)
stream North = record { left = record { depth = 1000; normal = pos 400; along = pos 7 }; right = record { depth = 0; normal = pos 0; along = pos 0 } }

-- a cell with both flows
abbrev pub streaming : ℕ → ℤ → ℤ → Cell
streaming depth east north = record { laid = true; bed = pos 0; depth = depth; east = east; north = north }

-- one cell with a flow to the east, its east side open and the others walls
abbrev pub outlet : Table
outlet = record { rows = 1; columns = 1; width = 1000; cells = wet (pos 0) 1000 (pos 400000) ∷ []; sides = Wall ∷ Open ∷ Wall ∷ Wall ∷ [] }

pub record FurtherSoundings : Type 0 where
  -- two cells from before the sheet is prepared until after the basin is closed
  pub stages :
      replies_to smooth (Rain 1 ∷ Prepare 1 2 1000 ∷ Prepare 1 2 1000 ∷ Lay 0 0 (pos 0) 1000 ∷ Opening ∷ Lay 0 2 (pos 0) 20 ∷ Lay 0 1 (pos 0) 20 ∷ Opening ∷ AskCell 0 2 ∷ Rain 5 ∷ AskStanding ∷ Close ∷ Rain 1 ∷ [])
      ≡ Refused OutOfStage ∷ Done ∷ Refused OutOfStage ∷ Done ∷ Refused Unlaid ∷ Refused OffSheet ∷ Done ∷ Done ∷ CellIs None ∷ Done ∷ StandingIs 1030 ∷ ClosedWith (rain_more (poured_only 1020) 10) 1 ∷ Refused OutOfStage ∷ []
  -- a side held below the bed has no water beyond it
  pub held_below :
      replies_to smooth (one_cell 1000 1000 (ChangeSide 1 2 (neg_ℤ (pos 500)) 0 ∷ Step 2 ∷ AskCell 0 0 ∷ AskAccount ∷ []))
      ≡ Done ∷ Done ∷ Done ∷ Done ∷ Done ∷ here (pos 0) 922 (pos 12262) ∷ AccountIs (eastward 1000 0 78) ∷ []
  -- a stream is fed into a dry cell from the west
  pub fed_west :
      replies_to smooth (one_cell 1000 0 (ChangeSide 0 3 (pos 1000) 400 ∷ Step 3 ∷ AskCell 0 0 ∷ AskAccount ∷ []))
      ≡ Done ∷ Done ∷ Done ∷ Done ∷ Done ∷ here (pos 0) 185 (pos 82441) ∷ AccountIs (eastward 0 185 0) ∷ []
  -- side 2 is the south
  pub fed_south :
      replies_to smooth (one_cell 1000 0 (ChangeSide 2 3 (pos 1000) 400 ∷ Step 3 ∷ AskCell 0 0 ∷ AskAccount ∷ []))
      ≡ Done ∷ Done ∷ Done ∷ Done ∷ Done ∷ CellIs (Some (streaming 185 (pos 0) (pos 82441))) ∷ AccountIs (northward 0 185 0) ∷ []
  -- the kinds of sides by their numbers
  pub kinds : (side_of 0 (pos 0) 0 ≡ Wall) × (side_of 1 (pos 0) 0 ≡ Open) × (side_of 2 (neg_ℤ (pos 5)) 0 ≡ Held (neg_ℤ (pos 5))) × (side_of 3 (pos 5) 7 ≡ Fed 5 7)
  -- water runs out over the open side at its own speed, and is thrown back by the wall
  pub outlet_step : (new_cell smooth outlet 3 0 0 ≡ wet (pos 0) 867 (pos 304800)) × (passed_by smooth outlet 3 East nothing_passed ≡ record { into = 0; out = 133 })
  -- a step at rate 10 over a bare bed of coefficient 1, with K = 10000: each flow carries the other along, and friction is given the speed before the step
  pub stream_step : cell_after (rusanov_over 1000) (streaming 1000 (pos 7000) (pos 400000)) stream 10000 10 ≡ streaming 985 (pos 4570) (pos 262781)
