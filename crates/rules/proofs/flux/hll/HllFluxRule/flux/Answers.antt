use Rattle.std.proofs.Common.{arith}
use Rattle.std.proofs.lemmas.Int.{ints, to_z-of_z}
use Rattle.rules.specs.Hlls.{wide_apart, goes_right, goes_left, goes_apart}
use Rattle.rules.specs.Sides.{facing}
use Rattle.rules.proofs.flux.hll.HllFluxRule.flux.Goals as goal

pub fan-requires : goal.fan-requires
fan-requires c = grind (arith, ints, to_z-of_z, wide_apart _ _ _ _ (facing c.args.face.left) (facing c.args.face.right))

pub returns-then-low-ge0 : goal.returns-then-low-ge0
returns-then-low-ge0 c =
    let l = c.args.face.left in
    let r = c.args.face.right in
    grind (arith, ints, to_z-of_z, goes_right l.depth l.normal r.depth r.normal)

pub returns-then-high-le0 : goal.returns-then-high-le0
returns-then-high-le0 c =
    let l = c.args.face.left in
    let r = c.args.face.right in
    grind (arith, ints, to_z-of_z, goes_left l.depth l.normal r.depth r.normal)

pub returns-else-high-le0 : goal.returns-else-high-le0
returns-else-high-le0 c = grind (arith, ints, to_z-of_z, goes_apart)
