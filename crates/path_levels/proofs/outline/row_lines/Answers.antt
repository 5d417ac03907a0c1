use Rattle.std.proofs.Common.{◌∙◌, ◌+◌, ◌-◌, ◌<◌, List, length, get_or, sym, ap, subst}
use Rattle.problem_core.specs.Layout.{Row}
use Rattle.path_levels.specs.declared.outline.LineFacts.{LineFacts}
use Rattle.path_levels.specs.OutlineParts.{AreFactsTo, HasNumber}
use Rattle.path_levels.proofs.OutlineParts.{row_more}
use Rattle.path_levels.proofs.outline.row_lines.Goals as goal

pub row_facts-requires : goal.row_facts-requires
row_facts-requires c =
    subst (λ (r : Row). HasNumber c.args.levels.now (1000 - r.rank))
    (sym (c.r-item.is ∙ ap (λ (rs : List Row). get_or rs c.loop-r.r-index c.r-item.result) c.rows-r-items.ensures))
    (c.requires c.loop-r.r-index c.r-item.result (subst (λ (rs : List Row). c.loop-r.r-index < length rs) c.rows-r-items.ensures c.loop-r-test.true))

pub loop-r-preserved : goal.loop-r-preserved
loop-r-preserved c =
    subst (λ (fs : List LineFacts). AreFactsTo c.args.p.now c.args.levels.now (c.loop-r.r-index + 1) fs) (sym c.in_ok-push.ensures.items)
    (row_more c.args.p.now c.args.levels.now c.loop-r.r-index c.loop-r.lines.items c.r-item.result c.row_facts.result
    (subst (λ (rs : List Row). c.loop-r.r-index < length rs) c.rows-r-items.ensures c.loop-r-test.true)
    (c.r-item.is ∙ ap (λ (rs : List Row). get_or rs c.loop-r.r-index c.r-item.result) c.rows-r-items.ensures)
    c.row_facts.ensures c.loop-r.invariant)
