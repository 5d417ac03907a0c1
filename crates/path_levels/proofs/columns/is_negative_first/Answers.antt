use Rattle.std.proofs.Common.{◌≡◌, ◌∙◌, ℕ, pos, sym, ap, get_or, length, SFits}
use Rattle.std.specs.Int.{w128}
use Rattle.std.proofs.lemmas.Int.{to_z-of_z}
use Rattle.std.proofs.lemmas.List.{get_or_default}
use lib.Signed.{lt_z}
use mir.Val.{of_z}
use Rattle.path_levels.specs.Costs.{cost_in}
use Rattle.path_levels.proofs.Judging.FirstSigns.{below_iff, decided_first}
use Rattle.path_levels.proofs.columns.is_negative_first.Goals as goal

pub returns-then-cost-ne0-clause-first : goal.returns-then-cost-ne0-clause-first
returns-then-cost-ne0-clause-first c = λ d.
    let fits : SFits w128 c.cost_at-cost.result = record { sfits = c.cost_at-cost.type_inv } in
    let here : cost_in c.args.spot.side c.args.facts.now c.args.spot.at c.loop-place.place (get_or c.args.levels.now c.loop-place.place d) ≡ c.cost_at-cost.result =
    ap (cost_in c.args.spot.side c.args.facts.now c.args.spot.at c.loop-place.place) (get_or_default c.args.levels.now c.loop-place.place d c.index-levels-place.result c.loop-place-test.true ∙ sym c.index-levels-place.is)
    ∙ sym c.cost_at-cost.ensures in
    simp to_z-of_z (decided_first (lt_z c.cost_at-cost.result (pos 0)) (length c.args.levels.now) c.loop-place.place (λ (k : ℕ). cost_in c.args.spot.side c.args.facts.now c.args.spot.at k (get_or c.args.levels.now k d)) c.loop-place-test.true
    (λ k less. c.loop-place.invariant k d less) (λ none. c.if-cost-ne0.true (ap (of_z w128) (sym here ∙ none)))
    (below_iff c.cost_at-cost.result (cost_in c.args.spot.side c.args.facts.now c.args.spot.at c.loop-place.place (get_or c.args.levels.now c.loop-place.place d)) here))
