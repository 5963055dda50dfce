use Rattle.std.proofs.Common.{pos, ap, ◌∙◌, lit<}
use Rattle.rules.specs.Side.{face_pace}
use Rattle.rules.specs.Rusanov.{rusanov_water, rusanov_push}
use Rattle.rules.specs.Wide.{Wide, given, number, store, times, plus, less, over, fits}
use Rattle.rules.specs.Sides.{facing, face_near, wide_depth, wide_discharge, wide_momentum}
use Rattle.rules.proofs.flux.rusanov.RusanovFluxRule.flux.Goals as goal
use Rattle.rules.proofs.flux.rusanov.RusanovFluxRule.flux.Goals.{After-momentum-push_right}

abbrev pace : After-momentum-push_right → Wide
pace c = store (given c.from-pace.result (pos (face_pace c.args.face.left.depth c.args.face.left.normal c.args.face.right.depth c.args.face.right.normal)) 24008 (c.from-pace.ensures ∙ ap pos c.pace.ensures.value) (face_near c.args.face.left.depth c.args.face.left.normal c.args.face.right.depth c.args.face.right.normal (facing c.args.face.left) (facing c.args.face.right))) (lit< tt)

abbrev depth_left : After-momentum-push_right → Wide
depth_left c = wide_depth c.args.face.left _ c.from-depth_left.ensures

abbrev depth_right : After-momentum-push_right → Wide
depth_right c = wide_depth c.args.face.right _ c.from-depth_right.ensures

abbrev water_left : After-momentum-push_right → Wide
water_left c = wide_discharge c.args.face.left _ c.discharge-water_left.ensures.value

abbrev water_right : After-momentum-push_right → Wide
water_right c = wide_discharge c.args.face.right _ c.discharge-water_right.ensures.value

abbrev push_left : After-momentum-push_right → Wide
push_left c = wide_momentum c.args.face.left _ c.momentum-push_left.ensures.value

abbrev push_right : After-momentum-push_right → Wide
push_right c = wide_momentum c.args.face.right _ c.momentum-push_right.ensures.value

abbrev rise : After-momentum-push_right → Wide
rise c = less (depth_right c) (depth_left c)

abbrev jump : After-momentum-push_right → Wide
jump c = times (pace c) (store (rise c) (lit< tt))

abbrev water : After-momentum-push_right → Wide
water c = less (store (plus (water_left c) (water_right c)) (lit< tt)) (store (jump c) (lit< tt))

abbrev drag : After-momentum-push_right → Wide
drag c = times (store (times (number 20) (pace c)) (lit< tt)) (store (less (water_right c) (water_left c)) (lit< tt))

abbrev push : After-momentum-push_right → Wide
push c = less (store (plus (push_left c) (push_right c)) (lit< tt)) (store (drag c) (lit< tt))

pub overflow_mul-water : goal.overflow_mul-water
overflow_mul-water c = fits (jump c) (lit< tt)

pub overflow_sub-water-2 : goal.overflow_sub-water-2
overflow_sub-water-2 c = fits (water c) (lit< tt)

pub overflow_mul-push-2 : goal.overflow_mul-push-2
overflow_mul-push-2 c = fits (drag c) (lit< tt)

pub overflow_sub-push-2 : goal.overflow_sub-push-2
overflow_sub-push-2 c = fits (push c) (lit< tt)

pub returns : goal.returns
unfolding rusanov_water rusanov_push
returns c = record { water = (store (over (store (water c) (lit< tt)) 2) (lit< tt)).is; push = (store (over (store (push c) (lit< tt)) 2) (lit< tt)).is }
