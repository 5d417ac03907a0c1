use Rattle.std.proofs.Common.{◌≡◌, ◌∙◌, ℕ, pos, sym, ap, get_or, length, SFits}
use Rattle.std.specs.Int.{w128}
use Rattle.std.proofs.lemmas.Int.{to_z-of_z}
use Rattle.std.proofs.lemmas.List.{get_or_default}
use lib.Signed.{lt_z}
use mir.Val.{of_z}
use Rattle.path_levels.specs.Exchanges.WideCosts.{wide_cost}
use Rattle.path_levels.proofs.Judging.FirstSigns.{below_iff, decided_first}
use Rattle.path_levels.proofs.columns_after.is_negative_first_after.Goals as goal

pub returns-then-cost-ne0-clause-first : goal.returns-then-cost-ne0-clause-first
returns-then-cost-ne0-clause-first c = λ d.
    let fits : SFits w128 c.wide_cost_at-cost.result = record { sfits = c.wide_cost_at-cost.type_inv } in
    let here : wide_cost c.args.spot.side c.args.facts.now c.args.spot.at c.loop-place.place (get_or c.args.next.now c.loop-place.place d) ≡ c.wide_cost_at-cost.result =
    ap (wide_cost c.args.spot.side c.args.facts.now c.args.spot.at c.loop-place.place) (get_or_default c.args.next.now c.loop-place.place d c.index-next-place.result c.loop-place-test.true ∙ sym c.index-next-place.is)
    ∙ sym c.wide_cost_at-cost.ensures in
    simp to_z-of_z (decided_first (lt_z c.wide_cost_at-cost.result (pos 0)) (length c.args.next.now) c.loop-place.place (λ (k : ℕ). wide_cost c.args.spot.side c.args.facts.now c.args.spot.at k (get_or c.args.next.now k d)) c.loop-place-test.true
    (λ k less. c.loop-place.invariant k d less) (λ none. c.if-cost-ne0.true (ap (of_z w128) (sym here ∙ none)))
    (below_iff c.wide_cost_at-cost.result (wide_cost c.args.spot.side c.args.facts.now c.args.spot.at c.loop-place.place (get_or c.args.next.now c.loop-place.place d)) here))
