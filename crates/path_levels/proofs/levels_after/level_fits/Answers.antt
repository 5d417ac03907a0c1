use Rattle.std.proofs.Common.{◌≡◌, ◌∙◌, ◌<◌, ◌↔◌, List, length, get_or, pos, rules, SFits, IsTrue, arith, subst}
use Rattle.std.specs.Int.{w64}
use Rattle.std.proofs.lemmas.Int.{to_z-of_z}
use Rattle.std.proofs.lemmas.List.{get_or_default}
use Rattle.path_levels.specs.declared.outline.LineFacts.{LineFacts}
use Rattle.path_levels.specs.Exchanges.FitsAfter.{IsFitLine}
use Rattle.path_levels.proofs.Exchanges.FitFacts.{level_less, level_more}
use Rattle.path_levels.proofs.levels_after.level_fits.Goals as goal

pub loop-at-preserved : goal.loop-at-preserved
loop-at-preserved c =
    let number : SFits w64 c.index.result.now = search rules in
    let items : c.deref-line-items.result.now ≡ c.args.corner.outline.now.lines.items = search rules in
    let within : c.loop-at.at < length c.args.corner.outline.now.lines.items = subst (λ (xs : List LineFacts). c.loop-at.at < length xs) items c.loop-at-test.true in
    let up : IsTrue c.line_fits.result = search rules in
    record {
      scale = c.loop-at.invariant.scale;
      each = level_more c.args.corner.outline.now c.args.corner.lines.now c.args.pivot.now c.args.row.place c.loop-at.at c.args.row.sum.now _ c.side_after-inside.result c.index.result.now within c.side_after-inside.ensures
          (c.index.ensures ∙ get_or_default c.args.row.sum.now.by.items c.loop-at.at c.index.result.now (pos 0) (omega (arith, within, c.requires.corner.count, c.requires.sum.count_is)))
          (subst (λ (xs : List LineFacts). IsFitLine (get_or xs c.loop-at.at _) c.side_after-inside.result c.args.row.place c.args.row.sum.now c.index.result.now) items ((simp to_z-of_z at c.line_fits.ensures).0 up)) c.loop-at.invariant.each;
    }

pub returns-then-not-line_fits : goal.returns-then-not-line_fits
returns-then-not-line_fits c =
    let number : SFits w64 c.index.result.now = search rules in
    let items : c.deref-line-items.result.now ≡ c.args.corner.outline.now.lines.items = search rules in
    let within : c.loop-at.at < length c.args.corner.outline.now.lines.items = subst (λ (xs : List LineFacts). c.loop-at.at < length xs) items c.loop-at-test.true in
    let down : IsTrue c.line_fits.result → ⊥ = search rules in
    level_less c.args.corner.outline.now c.args.corner.lines.now c.args.pivot.now c.args.row.place c.loop-at.at c.args.row.sum.now _ c.side_after-inside.result c.index.result.now c.line_fits.result within c.side_after-inside.ensures
    (c.index.ensures ∙ get_or_default c.args.row.sum.now.by.items c.loop-at.at c.index.result.now (pos 0) (omega (arith, within, c.requires.corner.count, c.requires.sum.count_is)))
    (subst (λ (xs : List LineFacts). IsTrue c.line_fits.result ↔ IsFitLine (get_or xs c.loop-at.at _) c.side_after-inside.result c.args.row.place c.args.row.sum.now c.index.result.now) items (simp to_z-of_z at c.line_fits.ensures)) down
