use Rattle.std.proofs.Common.{arith}
use Rattle.rules.specs.Roots.{least_at, root_only}
use Rattle.rules.proofs.root.root.Goals as goal

pub returns-then-target-near-clause-value : goal.returns-then-target-near-clause-value
returns-then-target-near-clause-value c = root_only c.args.depth c.estimate-near.result (least_at c.args.depth c.estimate-near.result (omega arith) (omega arith) (omega arith))
