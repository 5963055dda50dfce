-- The range of each number of a question.
use Rattle.std.specs.Prelude.{Bool, true, false, ◌&&◌, ℤ, pos, neg_ℤ, int_le}
use Rattle.face.specs.declared.quantity.Quantity.{Quantity}
use Rattle.face.specs.declared.quantity.Quantity.TheVariants.{Depth, FluxNumber, SideDepth, SideVelocity, Coefficient, Strength, Flow, Speed, NewDepth, Rate}

abbrev pub least_of : Quantity → ℤ
least_of Depth = pos 0
least_of FluxNumber = pos 1
least_of (SideDepth side) = pos 0
least_of (SideVelocity side) = neg_ℤ (pos 10000)
least_of Coefficient = pos 0
least_of Strength = pos 0
least_of Flow = neg_ℤ (pos 30000000000)
least_of Speed = pos 0
least_of NewDepth = pos 1
least_of Rate = pos 1

abbrev pub greatest_of : Quantity → ℤ
greatest_of Depth = pos 4294967295
greatest_of FluxNumber = pos 2
greatest_of (SideDepth side) = pos 2000000
greatest_of (SideVelocity side) = pos 10000
greatest_of Coefficient = pos 1000
greatest_of Strength = pos 1000000000
greatest_of Flow = pos 30000000000
greatest_of Speed = pos 10000
greatest_of NewDepth = pos 2000000
greatest_of Rate = pos 1000

abbrev pub within : Quantity → ℤ → Bool
within quantity value = int_le (least_of quantity) value && int_le value (greatest_of quantity)

-- a number of a rule: out of its range it is refused by the rules' number
abbrev pub of_rule : Quantity → Bool
of_rule Depth = false
of_rule FluxNumber = true
of_rule (SideDepth side) = false
of_rule (SideVelocity side) = false
of_rule Coefficient = true
of_rule Strength = true
of_rule Flow = false
of_rule Speed = false
of_rule NewDepth = false
of_rule Rate = false
