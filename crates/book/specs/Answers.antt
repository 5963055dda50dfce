-- A call answered as the water book answers it.
use Rattle.std.specs.Prelude.{◌≡◌, ℕ, Ok, Err, Result}
use Rattle.book.specs.declared.account.Account.{Account}
use Rattle.book.specs.declared.call.Call.{Call}
use Rattle.book.specs.declared.refusal.Refusal.{Refusal}
use Rattle.book.specs.declared.reply.Reply.{Reply}
use Rattle.book.specs.declared.reply.Reply.TheVariants.{Done, Refused, RateIs}
use Rattle.book.specs.Step.{Rules}
use Rattle.book.specs.Sheets.{Table}
use Rattle.book.specs.Accounts.{poured_only}
use Rattle.book.specs.Calls.{Book, preparing, serving, answer}

-- what is there after the call, and the reply to it, are the book's
pub record Answered (rules : Rules) (before : Book) (call : Call) (after : Book) (said : Reply) : Type 0 where
  pub book : after ≡ (answer rules before call).book
  pub reply : said ≡ (answer rules before call).reply

-- a sheet in preparation, and one in service with its account
abbrev pub in_preparation : Table → Book
in_preparation t = record { stage = preparing; table = t; account = poured_only 0 }

abbrev pub in_service : Table → Account → Book
in_service t a = record { stage = serving; table = t; account = a }

-- what a call that answers nothing else replies
abbrev pub outcome : Result (Unit {0}) Refusal → Reply
outcome (Ok done) = Done
outcome (Err why) = Refused why

-- what the question for the slowest rate replies
abbrev pub rate_reply : Result ℕ Refusal → Reply
rate_reply (Ok rate) = RateIs rate
rate_reply (Err why) = Refused why
