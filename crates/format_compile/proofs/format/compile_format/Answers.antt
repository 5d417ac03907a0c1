use Rattle.std.proofs.Common.{rules, List, subst, sym}
use Rattle.vfl_text.specs.View.{meaning}
use Rattle.format_compile.specs.FormatRows.{MayStopFormat}
use Rattle.format_compile.specs.declared.parts.Part.{Part}
use Rattle.format_compile.specs.FormatLines.{lines_of}
use Rattle.format_compile.specs.FormatStops.{row_count, IsPastNumbers, IsUsableFormat}
use Rattle.format_compile.specs.Asks.{AreAsks}
use Rattle.format_compile.specs.FormatViews.{parts_view}
use Rattle.format_compile.proofs.Numbered.{parts_stop}
use Rattle.format_compile.proofs.format.compile_format.Goals as goal

pub returns-in_err-rows-clause-stop : goal.returns-in_err-rows-clause-stop
returns-in_err-rows-clause-stop c =
    let asks : AreAsks c.args.tree.now.views c.args.metrics.now (lines_of c.args.tree.now.views (parts_view c.in_ok-parts.parts.items)) c.deref-2.result.now =
    subst (AreAsks c.args.tree.now.views c.args.metrics.now (lines_of c.args.tree.now.views (parts_view c.in_ok-parts.parts.items))) (sym c.deref-2.ensures.value)
    (subst (λ (ps : List Part). AreAsks c.args.tree.now.views c.args.metrics.now (lines_of c.args.tree.now.views (parts_view ps)) c.in_ok-asked.asked.rows.items) c.deref.ensures.value c.in_ok-asked.ensures.asks) in
    let h : MayStopFormat c.args.tree.now.views c.args.metrics.now (meaning c.args.format.now) c.args.align c.args.direction c.args.first_row c.in_err-rows.field-0.0 = parts_stop c.args.tree.now.views c.args.metrics.now (meaning c.args.format.now) c.args.align c.args.direction c.args.first_row c.in_err-rows.field-0.0 (parts_view c.in_ok-parts.parts.items) c.in_ok-parts.ensures
    (subst (λ (ps : List Part). IsUsableFormat c.args.tree.now.views c.args.metrics.now c.args.format.now.axis c.args.align (parts_view ps)) c.deref.ensures.value c.in_ok-asked.ensures.usable)
    (subst (λ (ps : List Part). IsPastNumbers c.args.first_row (row_count c.args.tree.now.views (parts_view ps)) → ⊥) c.deref.ensures.value c.in_ok-asked.ensures.numbers)
    (c.in_err-rows.ensures.stop c.args.tree.now.views (lines_of c.args.tree.now.views (parts_view c.in_ok-parts.parts.items)) asks) in
    search rules
