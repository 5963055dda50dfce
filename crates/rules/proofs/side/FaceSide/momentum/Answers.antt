use Rattle.std.proofs.Common.{lit<}
use Rattle.rules.specs.Side.{momentum}
use Rattle.rules.specs.Wide.{Wide, number, store, times, plus, fits}
use Rattle.rules.specs.Sides.{facing, momentum_near, wide_depth, wide_normal}
use Rattle.rules.proofs.side.FaceSide.momentum.Goals as goal

abbrev depth : goal.After-from-normal → Wide
depth c = wide_depth c.args.self _ c.from-depth.ensures

abbrev speed : goal.After-from-normal → Wide
speed c = wide_normal c.args.self _ c.from-normal.ensures

abbrev flow : goal.After-from-normal → Wide
flow c = times (store (times (number 20) (depth c)) (lit< tt)) (store (times (speed c) (speed c)) (lit< tt))

abbrev weight : goal.After-from-normal → Wide
weight c = times (number 981) (store (times (depth c) (depth c)) (lit< tt))

abbrev whole : goal.After-from-normal → Wide
whole c = plus (store (flow c) (lit< tt)) (store (weight c) (lit< tt))

pub overflow_mul-result-3 : goal.overflow_mul-result-3
overflow_mul-result-3 c = fits (flow c) (lit< tt)

pub overflow_add-result : goal.overflow_add-result
overflow_add-result c = fits (whole c) (lit< tt)

pub returns : goal.returns
unfolding momentum
returns c =
    let e = (store (whole c) (lit< tt)).is in
    record { value = e; bound = rw e (momentum_near c.args.self.depth c.args.self.normal (facing c.args.self)) }
