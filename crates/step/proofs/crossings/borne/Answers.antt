use Rattle.std.proofs.Common.{◌≤◌, ℤ, pos, ◌*ℤ◌, nat_abs, arith}
use Rattle.std.proofs.lemmas.Int.{ints, to_z-of_z}
use Rattle.rules.specs.Ints.{near_mul}
use Rattle.step.proofs.crossings.borne.Goals as goal

near : (w a : ℤ) → nat_abs w ≤ 48016000000 → nat_abs a ≤ 10000 → nat_abs ((pos 20 *ℤ w) *ℤ a) ≤ 9603200000000000
near w a h k = near_mul (pos 20 *ℤ w) a 960320000000 10000 (omega (arith, ints)) k

pub overflow_mul-result-2 : goal.overflow_mul-result-2
overflow_mul-result-2 c = grind (arith, to_z-of_z, near c.args.water c.args.along)

pub returns : goal.returns
returns c = grind (arith, to_z-of_z, near c.args.water c.args.along)
