use Rattle.std.proofs.Common.{◌∙◌, sym, SFits}
use Rattle.std.specs.Int.{w128}
use Rattle.std.proofs.lemmas.Int.{to_z-of_z}
use Rattle.cert_checker.proofs.Certificates.Columns.{or-true, or-false}
use Rattle.cert_checker.proofs.fronts.enter.Goals as goal

pub returns-then-sides : goal.returns-then-sides
returns-then-sides c = λ f g seen e h fronts.
    let under_fits : SFits w128 c.reduced.result = record { sfits = c.reduced.type_inv } in
    let over_fits : SFits w128 c.reduced-2.result = record { sfits = c.reduced-2.type_inv } in
    let under = simp (to_z-of_z, c.ranges.scale, c.ranges.times) at c.reduced.ensures in
    let over = simp (to_z-of_z, c.ranges.scale, c.ranges.times) at c.reduced-2.ensures in
    record {
      below = (simp to_z-of_z at (c.keep.ensures f seen)) (e ∙ sym under) fronts.below;
      above = (simp to_z-of_z at (c.keep-2.ensures g seen)) (h ∙ sym over) fronts.above;
      own_seen = or-true c.args.sides.own (seen c.args.facts.now.own) _ fronts.own_seen c.if-sides.true;
    }

pub returns-else-sides : goal.returns-else-sides
returns-else-sides c = λ f g seen e h fronts.
    let under_fits : SFits w128 c.reduced.result = record { sfits = c.reduced.type_inv } in
    let over_fits : SFits w128 c.reduced-2.result = record { sfits = c.reduced-2.type_inv } in
    let under = simp (to_z-of_z, c.ranges.scale, c.ranges.times) at c.reduced.ensures in
    let over = simp (to_z-of_z, c.ranges.scale, c.ranges.times) at c.reduced-2.ensures in
    record {
      below = (simp to_z-of_z at (c.keep.ensures f seen)) (e ∙ sym under) fronts.below;
      above = (simp to_z-of_z at (c.keep-2.ensures g seen)) (h ∙ sym over) fronts.above;
      own_seen = or-false c.args.sides.own (seen c.args.facts.now.own) _ fronts.own_seen c.if-sides.false;
    }
