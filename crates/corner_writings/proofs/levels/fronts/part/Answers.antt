use Rattle.std.proofs.Common.{rules, SFits, ◌≡◌, ◌∙◌, ap, cond, pos, sym, Bool}
use Rattle.std.specs.Int.{w64}
use Rattle.std.proofs.lemmas.Int.{to_z-of_z}
use Rattle.corner_writings.specs.Fitting.{counted}
use Rattle.corner_writings.proofs.LevelFacts.FittingRows.{counted_if}
use Rattle.corner_writings.proofs.levels.fronts.part.Goals as goal

pub returns-then-costs-clause-value : goal.returns-then-costs-clause-value
returns-then-costs-clause-value c =
    let fits : SFits w64 c.args.cost = search rules in
    let e : counted c.args.rel c.args.side c.args.cost ≡ c.args.cost =
    counted_if c.args.rel c.args.side c.costs.result c.args.cost c.costs.ensures ∙ ap (λ (b : Bool). cond b c.args.cost (pos 0)) c.if-costs.true in
    to_z-of_z w64 c.args.cost fits ∙ sym e

pub returns-else-costs-clause-value : goal.returns-else-costs-clause-value
returns-else-costs-clause-value c =
    sym (counted_if c.args.rel c.args.side c.costs.result c.args.cost c.costs.ensures ∙ ap (λ (b : Bool). cond b c.args.cost (pos 0)) c.if-costs.false)
