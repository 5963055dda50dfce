use Rattle.std.proofs.Common.{refl, arith, lit<}
use Rattle.rules.specs.Hll.{fan_water, fan_push}
use Rattle.rules.specs.Wide.{Wide, given, number, store, times, plus, less, over, by, within, fits, divisor}
use Rattle.rules.specs.Sides.{wide_depth, wide_discharge, wide_momentum}
use Rattle.rules.specs.Fans.{width_pos, lean_near, jump_near}
use Rattle.rules.proofs.flux.hll.fan.Goals as goal
use Rattle.rules.proofs.flux.hll.fan.Goals.{After-momentum-push_right}

abbrev low : After-momentum-push_right → Wide
low c = store (given c.args.low c.args.low 24008 refl c.requires.low) (lit< tt)

abbrev high : After-momentum-push_right → Wide
high c = store (given c.args.high c.args.high 24008 refl c.requires.high) (lit< tt)

abbrev depth_left : After-momentum-push_right → Wide
depth_left c = wide_depth c.args.face.left _ c.from-depth_left.ensures

abbrev water_left : After-momentum-push_right → Wide
water_left c = wide_discharge c.args.face.left _ c.discharge-water_left.ensures.value

abbrev push_left : After-momentum-push_right → Wide
push_left c = wide_momentum c.args.face.left _ c.momentum-push_left.ensures.value

abbrev depth_right : After-momentum-push_right → Wide
depth_right c = wide_depth c.args.face.right _ c.from-depth_right.ensures

abbrev water_right : After-momentum-push_right → Wide
water_right c = wide_discharge c.args.face.right _ c.discharge-water_right.ensures.value

abbrev push_right : After-momentum-push_right → Wide
push_right c = wide_momentum c.args.face.right _ c.momentum-push_right.ensures.value

abbrev wide : After-momentum-push_right → Wide
wide c = less (high c) (low c)

abbrev product : After-momentum-push_right → Wide
product c = times (low c) (high c)

abbrev out : After-momentum-push_right → Wide
out c = times (high c) (water_left c)

abbrev back : After-momentum-push_right → Wide
back c = times (low c) (water_right c)

abbrev flow : After-momentum-push_right → Wide
flow c = less (store (out c) (lit< tt)) (store (back c) (lit< tt))

abbrev spread : After-momentum-push_right → Wide
spread c = times (store (product c) (lit< tt)) (store (less (depth_right c) (depth_left c)) (lit< tt))

abbrev above : After-momentum-push_right → Wide
above c = plus (store (flow c) (lit< tt)) (store (spread c) (lit< tt))

abbrev water : After-momentum-push_right → Wide
water c = by (store (above c) (lit< tt)) (store (wide c) (lit< tt))

abbrev slope : After-momentum-push_right → Wide
slope c = by (store (less (push_left c) (push_right c)) (lit< tt)) (store (wide c) (lit< tt))

abbrev lean : After-momentum-push_right → Wide
lean c = within (times (store (plus (low c) (high c)) (lit< tt)) (store (slope c) (lit< tt))) 15848000000000000 (lean_near c.args.low c.args.high (less (push_left c) (push_right c)).meant 15848000000000000 c.requires.left c.requires.right (less (push_left c) (push_right c)).near)

abbrev twenty : After-momentum-push_right → Wide
twenty c = times (number 20) (store (product c) (lit< tt))

abbrev share : After-momentum-push_right → Wide
share c = within (by (store (twenty c) (lit< tt)) (store (wide c) (lit< tt))) 480160 (omega (arith, jump_near c.args.low c.args.high c.requires.left c.requires.right, c.requires.low))

abbrev jump : After-momentum-push_right → Wide
jump c = times (store (share c) (lit< tt)) (store (less (water_right c) (water_left c)) (lit< tt))

abbrev both : After-momentum-push_right → Wide
both c = plus (push_left c) (push_right c)

abbrev all : After-momentum-push_right → Wide
all c = plus (store (both c) (lit< tt)) (store (lean c) (lit< tt))

abbrev push : After-momentum-push_right → Wide
push c = plus (store (over (store (all c) (lit< tt)) 2) (lit< tt)) (store (jump c) (lit< tt))

pub overflow_mul-water : goal.overflow_mul-water
overflow_mul-water c = fits (out c) (lit< tt)

pub overflow_mul-water-2 : goal.overflow_mul-water-2
overflow_mul-water-2 c = fits (back c) (lit< tt)

pub overflow_sub-water : goal.overflow_sub-water
overflow_sub-water c = fits (flow c) (lit< tt)

pub overflow_mul-water-3 : goal.overflow_mul-water-3
overflow_mul-water-3 c = fits (spread c) (lit< tt)

pub overflow_add-water : goal.overflow_add-water
overflow_add-water c = fits (above c) (lit< tt)

pub nonzero_div-water : goal.nonzero_div-water
nonzero_div-water c = (divisor (wide c) (width_pos c.args.low c.args.high c.requires.left c.requires.right), fits (water c) (lit< tt))

pub nonzero_div-lean : goal.nonzero_div-lean
nonzero_div-lean c = (divisor (wide c) (width_pos c.args.low c.args.high c.requires.left c.requires.right), fits (slope c) (lit< tt))

pub overflow_mul-lean : goal.overflow_mul-lean
overflow_mul-lean c = fits (lean c) (lit< tt)

pub nonzero_div-jump : goal.nonzero_div-jump
nonzero_div-jump c = (divisor (wide c) (width_pos c.args.low c.args.high c.requires.left c.requires.right), fits (share c) (lit< tt))

pub overflow_mul-jump-2 : goal.overflow_mul-jump-2
overflow_mul-jump-2 c = fits (jump c) (lit< tt)

pub overflow_add-push-2 : goal.overflow_add-push-2
overflow_add-push-2 c = fits (all c) (lit< tt)

pub overflow_add-push-3 : goal.overflow_add-push-3
overflow_add-push-3 c = fits (push c) (lit< tt)

pub returns : goal.returns
unfolding fan_water fan_push
returns c = record { water = (store (water c) (lit< tt)).is; push = (store (push c) (lit< tt)).is }
