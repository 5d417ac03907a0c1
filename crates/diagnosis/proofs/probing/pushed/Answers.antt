use Rattle.std.proofs.Common.{◌∙◌, ◌∷◌, [], ℕ, sym, subst, ap}
use Rattle.problem_core.specs.Layout.{Row}
use Rattle.problem_core.specs.Kept.{IsRow, IsWhole}
use Rattle.corner_view.specs.Changes.{IsNear}
use Rattle.layout_solver.specs.Layouts.{with_added}
use Rattle.diagnosis.specs.Probes.{next_number, side}
use Rattle.diagnosis.proofs.Probes.ProbeWhole.{wish_near, wish_same, wish_whole, with_wish}
use Rattle.diagnosis.proofs.Probes.Probed.{pushed_value}
use Rattle.diagnosis.proofs.probing.pushed.Goals as goal

pub wish-requires : goal.wish-requires
wish-requires g c =
    subst IsRow (sym (wish_same c.next_number-number.result (next_number c.args.e.now.problem.rows) c.args.attr c.side_of.result (side c.args.up) c.in_ok-behind.behind (c.next_number-number.ensures ∙ ap next_number c.rows.ensures) c.side_of.ensures))
    (wish_whole c.args.e.now c.args.attr (side c.args.up) c.in_ok-behind.behind c.show_layout.ensures.whole c.show_layout.ensures.best.attributes c.show_layout.ensures.kept c.in_ok-behind.ensures.kept c.requires.can).0

pub value_after-requires-clause-whole : goal.value_after-requires-clause-whole
value_after-requires-clause-whole g c =
    subst (λ (r : Row). IsWhole (with_added c.args.e.now [] (r ∷ []))) (sym (c.in-Ok.ensures ∙ wish_same c.next_number-number.result (next_number c.args.e.now.problem.rows) c.args.attr c.side_of.result (side c.args.up) c.in_ok-behind.behind (c.next_number-number.ensures ∙ ap next_number c.rows.ensures) c.side_of.ensures))
    (wish_whole c.args.e.now c.args.attr (side c.args.up) c.in_ok-behind.behind c.show_layout.ensures.whole c.show_layout.ensures.best.attributes c.show_layout.ensures.kept c.in_ok-behind.ensures.kept c.requires.can).1

pub value_after-requires-clause-near : goal.value_after-requires-clause-near
value_after-requires-clause-near g c =
    subst (λ (r : Row). IsNear (with_added c.args.e.now [] (r ∷ [])) c.next_number-number.result c.args.target) (sym (c.in-Ok.ensures ∙ wish_same c.next_number-number.result (next_number c.args.e.now.problem.rows) c.args.attr c.side_of.result (side c.args.up) c.in_ok-behind.behind (c.next_number-number.ensures ∙ ap next_number c.rows.ensures) c.side_of.ensures))
    (subst (λ (k : ℕ). IsNear (with_wish c.args.e.now c.args.attr (side c.args.up) c.in_ok-behind.behind) k c.args.target) (sym (c.next_number-number.ensures ∙ ap next_number c.rows.ensures))
    (wish_near c.args.e.now c.args.attr (side c.args.up) c.in_ok-behind.behind c.args.target c.show_layout.ensures.whole c.in_ok-behind.ensures.kept.lowest.above c.requires.target.lowest.above (c.is_near.ensures c.if-not-is_near.false)))

pub returns-clause-value : goal.returns-clause-value
returns-clause-value g c =
    pushed_value c.args.e.now c.args.attr c.next_number-number.result c.args.up c.side_of.result c.in_ok-behind.behind c.args.target c.in-Ok-value_after.value c.in-Ok.row c.in-Ok.ensures (c.next_number-number.ensures ∙ ap next_number c.rows.ensures) c.side_of.ensures c.show_layout.ensures.whole
    (wish_whole c.args.e.now c.args.attr (side c.args.up) c.args.target c.show_layout.ensures.whole c.show_layout.ensures.best.attributes c.show_layout.ensures.kept c.requires.target c.requires.can).1 c.requires.can c.num.ensures.kept.lowest.above (c.is_past.ensures c.if-is_past.false) c.in-Ok-value_after.ensures.value
