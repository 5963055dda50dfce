use Rattle.std.proofs.Common.{arith}
use Rattle.std.proofs.lemmas.Int.{to_z-of_z}
use Rattle.book.proofs.Numbers.{greater_swap}
use Rattle.step.proofs.edges.meeting.Goals as goal

pub returns : goal.returns
returns c = grind (arith, to_z-of_z, greater_swap)
