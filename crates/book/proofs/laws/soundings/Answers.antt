use Rattle.book.proofs.laws.soundings.Goals as goal
use Rattle.book.proofs.Soundings as worked

-- src/laws.rt
pub returns : goal.returns
returns c = record { worked = worked.soundings; further = worked.further_soundings; limits = worked.limits }
