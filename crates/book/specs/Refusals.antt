-- The number of each refusal. The first ten say what the input causes, the others what the state causes.
use Rattle.std.specs.Prelude.{ℕ}
use Rattle.book.specs.declared.refusal.Refusal.{Refusal}
use Rattle.book.specs.declared.refusal.Refusal.TheVariants.{Size, Place, Bed, Depth, Side, Rate, Amount, Rule, UnknownKind, CutShort, OutOfStage, Unlaid, TooSlow, Brim, FullAccount, NoRate}

abbrev pub refusal_number : Refusal → ℕ
-- rows, columns or width
refusal_number Size = 1
-- a cell off the sheet
refusal_number Place = 2
refusal_number Bed = 3
refusal_number Depth = 4
-- the number of a side, its kind or its values
refusal_number Side = 5
refusal_number Rate = 6
-- of rain or of soaking
refusal_number Amount = 7
-- the number of a flux, a coefficient or a strength
refusal_number Rule = 8
-- a record of no kind, and one with a body cut short
refusal_number UnknownKind = 9
refusal_number CutShort = 10
-- a call or a record that does not fit the stage
refusal_number OutOfStage = 11
-- opening with a cell unlaid
refusal_number Unlaid = 12
refusal_number TooSlow = 13
-- passed by a step, by rain, or by the ghost of a side held too high
refusal_number Brim = 14
-- a count would pass its limit
refusal_number FullAccount = 15
-- no rate is fast enough
refusal_number NoRate = 16
