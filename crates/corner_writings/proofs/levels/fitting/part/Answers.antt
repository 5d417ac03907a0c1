use Rattle.std.proofs.Common.{rules, SFits, ◌≡◌, ◌∙◌, ap, cond, pos, sym, Bool}
use Rattle.std.specs.Int.{w128}
use Rattle.std.proofs.lemmas.Int.{to_z-of_z}
use Rattle.corner_writings.specs.Fitting.{counted}
use Rattle.corner_writings.proofs.LevelFacts.FittingRows.{counted_if}
use Rattle.corner_writings.proofs.levels.fitting.part.Goals as goal

pub returns-then-costs-clause-value : goal.returns-then-costs-clause-value
returns-then-costs-clause-value c =
    let fits : SFits w128 c.args.line.size = search rules in
    let e : counted c.args.line.rel c.args.side c.args.line.size ≡ c.args.line.size =
    counted_if c.args.line.rel c.args.side c.costs.result c.args.line.size c.costs.ensures ∙ ap (λ (b : Bool). cond b c.args.line.size (pos 0)) c.if-costs.true in
    to_z-of_z w128 c.args.line.size fits ∙ sym e

pub returns-else-costs-clause-value : goal.returns-else-costs-clause-value
returns-else-costs-clause-value c =
    sym (counted_if c.args.line.rel c.args.side c.costs.result c.args.line.size c.costs.ensures ∙ ap (λ (b : Bool). cond b c.args.line.size (pos 0)) c.if-costs.false)
