-- The laws of the water book together.
use Rattle.book.specs.Calls.{book_after}
use Rattle.book.specs.Laws.{WaterLawsHold}
use Rattle.book.proofs.Judged.{refusal_leaves, in_order}
use Rattle.book.proofs.Soundness.{book_sound, sound_serving, step_overdraws_none, step_exact}
use Rattle.book.proofs.Films.{cells_kept}
use Rattle.book.proofs.Balance.{balanced}
use Rattle.book.proofs.Walls.{wall_holds}
use Rattle.book.proofs.Rates.{slowest_least}
use Rattle.book.proofs.Still.{still_stays}
use Rattle.book.proofs.TurnedWords.{off_turned}
use Rattle.book.proofs.TurnedRuns.{turned_books_alike, turned_replies_alike}

pub water_laws_hold : WaterLawsHold
water_laws_hold rules flux friction = record {
  cells_kept = cells_kept rules friction;
  balanced = balanced rules flux friction;
  never_overdrawn = λ calls. step_overdraws_none rules flux (book_after rules calls) (book_sound rules friction calls);
  depths_exact = λ calls. step_exact rules flux (book_after rules calls) (book_sound rules friction calls);
  walls_hold = λ calls rate serves. wall_holds rules flux (book_after rules calls).table (sound_serving (book_after rules calls) serves (book_sound rules friction calls)) rate;
  slowest_least = slowest_least;
  refusals_change_nothing = λ calls. refusal_leaves rules (book_after rules calls);
  smallest_first = in_order rules;
  still_stays = still_stays rules flux friction;
  turned_books_alike = turned_books_alike rules flux friction;
  turned_replies_alike = turned_replies_alike rules flux friction;
  off_stays_off = λ τ t p. off_turned τ t p.row p.column;
}
