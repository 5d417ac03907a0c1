use Rattle.std.proofs.Common.{SFits, rules, w64, arith, subst, sym}
use Rattle.std.specs.Int.{w128}
use Rattle.std.proofs.lemmas.Int.{to_z-of_z}
use Rattle.path_levels.specs.Outlines.{IsPriced}
use Rattle.path_levels.proofs.Joining.Fitting.{fitting_at}
use Rattle.path_levels.proofs.joins.is_line_fitting.Goals as goal

pub are_fitting-requires-clause-facts : goal.are_fitting-requires-clause-facts
are_fitting-requires-clause-facts c =
    subst IsPriced (sym c.index-line.ensures) (c.requires.corner.outline_is c.args.at c.index-line.result.now (omega (arith, c.requires.at, c.requires.corner.count))).priced

pub returns : goal.returns
returns c =
    let u : SFits w128 c.args.draft.now.unit = search rules in
    let o : SFits w64 c.args.draft.now.own = search rules in
    let n : SFits w64 c.index.result.now = search rules in
    let all = simp to_z-of_z at c.are_fitting.ensures in
    fitting_at c.args.corner.outline.now c.args.corner.lines.now c.args.place c.args.draft.now c.args.at c.index-line.result.now c.index-lines-at.result c.index.result.now c.are_fitting.result (omega (arith, c.requires.at, c.requires.corner.count)) c.requires.at (omega (arith, c.requires.at, c.requires.draft.count_is))
    c.index-line.ensures c.index-lines-at.is c.index.ensures c.if-line-place.false all
