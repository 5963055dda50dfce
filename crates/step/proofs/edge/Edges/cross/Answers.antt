use Rattle.std.proofs.Common.{arith}
use Rattle.std.proofs.lemmas.Int.{to_z-of_z}
use Rattle.std.proofs.lemmas.Bool.{ltb-false}
use Rattle.book.specs.Step.{rules_of}
use Rattle.step.proofs.Fluxes.{water_near, push_near, gives}
use Rattle.step.proofs.edge.Edges.cross.Goals as goal

pub carried-requires : goal.carried-requires
carried-requires g c = grind (arith, to_z-of_z, water_near (g.met.F.FluxRule.lawful c.args.rule.now) c.args.self)

pub invariant_of-result : goal.invariant_of-result
invariant_of-result g c =
    let lawful = g.met.F.FluxRule.lawful c.args.rule.now in
    grind (arith, ltb-false, to_z-of_z, water_near lawful c.args.self, push_near lawful c.args.self, gives lawful c.args.self)

pub returns : goal.returns
returns g c slowed =
    let lawful = g.met.F.FluxRule.lawful c.args.rule.now in
    let rules = rules_of g.F.FluxRule.NUMBER (g.F.FluxRule.water c.args.rule.now) (g.F.FluxRule.push c.args.rule.now) slowed in
    grind (arith, ltb-false, to_z-of_z, water_near lawful c.args.self, push_near lawful c.args.self, c.carried.ensures.value rules)
