use Rattle.std.proofs.Common.{lit<}
use Rattle.rules.specs.Side.{discharge}
use Rattle.rules.specs.Wide.{store, times}
use Rattle.rules.specs.Sides.{facing, discharge_near, wide_depth, wide_normal}
use Rattle.rules.proofs.side.FaceSide.discharge.Goals as goal

pub returns : goal.returns
unfolding discharge
returns c =
    let e = (store (times (wide_depth c.args.self _ c.from.ensures) (wide_normal c.args.self _ c.from-2.ensures)) (lit< tt)).is in
    record { value = e; bound = rw e (discharge_near c.args.self.depth c.args.self.normal (facing c.args.self)) }
