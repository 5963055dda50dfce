-- Soundings at the limits: the last argument that is accepted and the first that is refused.
use Rattle.std.specs.Prelude.{◌≡◌, ℕ, true, false, List, [], ◌∷◌, map, replicate, pos, neg_ℤ}
use Rattle.book.specs.declared.account.Account.{Account}
use Rattle.book.specs.declared.call.Call.{Call}
use Rattle.book.specs.declared.call.Call.TheVariants.{Prepare, Lay, Step, Rain, Soak, ChangeSide, AskSlowestRate}
use Rattle.book.specs.declared.refusal.Refusal.{Refusal}
use Rattle.book.specs.declared.refusal.Refusal.TheVariants.{Size, Place as OffSheet, Bed, Depth, Side as BadSide, Rate, Amount, TooSlow, Brim, NoRate}
use Rattle.book.specs.declared.reply.Reply.{Reply}
use Rattle.book.specs.declared.reply.Reply.TheVariants.{Done, Refused}
use Rattle.book.specs.Accounts.{nothing_passed, full}
use Rattle.book.specs.Calls.{answer, book_after, soaked}
use Rattle.book.specs.Soundings.{smooth, wet, one_cell}

-- the replies to some calls, each made after the same list
abbrev pub each_after : List Call → List Call → List Reply
each_after before calls = map (λ x. (answer smooth (book_after smooth before) x).reply) calls

abbrev pub all_done : ℕ → List Reply
all_done n = replicate n Done

abbrev pub all_refused : ℕ → Refusal → List Reply
all_refused n why = replicate n (Refused why)

-- an account with these counts, of which the last two are of the west side
abbrev pub counts : ℕ → ℕ → ℕ → ℕ → ℕ → Account
counts poured rain soak into out =
    record { poured = poured; rain = rain; soak = soak; west = record { into = into; out = out }; east = nothing_passed; south = nothing_passed; north = nothing_passed }

pub record Limits : Type 0 where
  -- 1 to 64 rows and columns, at most 1,024 cells, a width of 10 to 100,000
  pub sizes_taken : each_after [] (Prepare 1 1 10 ∷ Prepare 64 16 100000 ∷ Prepare 16 64 10 ∷ []) ≡ all_done 3
  pub sizes_refused :
      each_after [] (Prepare 0 1 10 ∷ Prepare 65 1 10 ∷ Prepare 1 0 10 ∷ Prepare 1 65 10 ∷ Prepare 25 41 10 ∷ Prepare 1 1 9 ∷ Prepare 1 1 100001 ∷ [])
      ≡ all_refused 7 Size
  -- a place on the sheet, a bed within 10,000,000 of zero, a depth of at most 2,000,000; the first of several faults is answered
  pub cells_taken : each_after (Prepare 1 2 10 ∷ []) (Lay 0 1 (pos 10000000) 2000000 ∷ Lay 0 0 (neg_ℤ (pos 10000000)) 0 ∷ []) ≡ all_done 2
  pub cells_refused :
      each_after (Prepare 1 2 10 ∷ []) (Lay 1 0 (pos 10000001) 2000001 ∷ Lay 0 2 (pos 0) 0 ∷ Lay 0 1 (pos 10000001) 2000001 ∷ Lay 0 1 (neg_ℤ (pos 10000001)) 0 ∷ Lay 0 1 (pos 0) 2000001 ∷ [])
      ≡ Refused OffSheet ∷ Refused OffSheet ∷ Refused Bed ∷ Refused Bed ∷ Refused Depth ∷ []
  -- four sides of four kinds with their values; a held level gives at most 2,000,000 over a bed
  pub sides_taken :
      each_after (one_cell 1000 1000 []) (ChangeSide 3 0 (pos 0) 0 ∷ ChangeSide 0 1 (pos 0) 0 ∷ ChangeSide 1 2 (neg_ℤ (pos 10000000)) 0 ∷ ChangeSide 1 2 (pos 2000000) 0 ∷ ChangeSide 2 3 (pos 1) 1 ∷ ChangeSide 2 3 (pos 2000000) 10000 ∷ [])
      ≡ all_done 6
  pub sides_refused :
      each_after (one_cell 1000 1000 []) (ChangeSide 4 0 (pos 0) 0 ∷ ChangeSide 0 4 (pos 0) 0 ∷ ChangeSide 0 0 (pos 1) 0 ∷ ChangeSide 0 1 (pos 0) 1 ∷ ChangeSide 0 2 (neg_ℤ (pos 10000001)) 0 ∷ ChangeSide 0 2 (pos 12000001) 0 ∷ ChangeSide 0 2 (pos 0) 1 ∷ ChangeSide 0 3 (pos 0) 1 ∷ ChangeSide 0 3 (pos 2000001) 1 ∷ ChangeSide 0 3 (pos 1) 0 ∷ ChangeSide 0 3 (pos 1) 10001 ∷ [])
      ≡ all_refused 11 BadSide
  pub sides_over : each_after (one_cell 1000 1000 []) (ChangeSide 1 2 (pos 2000001) 0 ∷ ChangeSide 1 2 (pos 12000000) 0 ∷ []) ≡ all_refused 2 Brim
  -- rates and amounts from 1 to 1,000
  pub amounts_taken : each_after (one_cell 1000 1000 []) (Rain 1000 ∷ Soak 1000 ∷ Rain 1 ∷ Soak 1 ∷ []) ≡ all_done 4
  pub amounts_refused : each_after (one_cell 1000 1000 []) (Rain 0 ∷ Rain 1001 ∷ Soak 0 ∷ Soak 1001 ∷ []) ≡ all_refused 4 Amount
  pub rates_refused : each_after (one_cell 1000 1000 []) (Step 0 ∷ Step 1001 ∷ []) ≡ all_refused 2 Rate
  pub rate_highest : each_after (one_cell 10 1000 []) (Step 1000 ∷ []) ≡ all_done 1
  -- at 1,000 deep 4·m is 1,256, which K may be, and may not be below
  pub rate_reached : each_after (one_cell 1256 1000 []) (Step 1 ∷ []) ≡ all_done 1
  pub rate_missed : each_after (one_cell 1255 1000 []) (Step 1 ∷ []) ≡ all_refused 1 TooSlow
  -- the deepest water on the narrowest cell: no rate suits
  pub rate_none : each_after (one_cell 10 2000000 []) (AskSlowestRate ∷ []) ≡ all_refused 1 NoRate
  -- rain fills a cell to the brim, and not past it
  pub brim_reached : each_after (one_cell 1000 1999999 []) (Rain 1 ∷ []) ≡ all_done 1
  pub brim_passed : each_after (one_cell 1000 2000000 []) (Rain 1 ∷ []) ≡ all_refused 1 Brim
  -- water of 10 flows, and water of 9 does not
  pub film_left : soaked 1000 (wet (pos 0) 1010 (pos 3030)) ≡ wet (pos 0) 10 (pos 30)
  pub film_lost : soaked 1000 (wet (pos 0) 1009 (pos 3027)) ≡ wet (pos 0) 9 (pos 0)
  -- no count passes 10^13
  pub counts_taken : full (counts 10000000000000 10000000000000 10000000000000 10000000000000 10000000000000) ≡ false
  pub counts_refused :
      map full (counts 10000000000001 0 0 0 0 ∷ counts 0 10000000000001 0 0 0 ∷ counts 0 0 10000000000001 0 0 ∷ counts 0 0 0 10000000000001 0 ∷ counts 0 0 0 0 10000000000001 ∷ [])
      ≡ replicate 5 true
